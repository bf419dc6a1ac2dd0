-- A line that was found in a text, and what is known behind it.
-- Assumes nothing.
use Prim.Native.Nat.{ℕ, ◌+◌, ◌-◌, ◌≤◌, ◌<◌}
use mathlib.Core.Path.{◌≡◌, refl, sym, ap, ◌∙◌}
use mathlib.Core.Bool.{Bool, true, false}
use mathlib.Core.Logic.{◌⊎◌, ⊎_elim}
use mathlib.Core.List.{List, [], ◌∷◌}
use native.Mathlib.Omega.{arith}
use lib.ListN.{length}
use Rattle.std.specs.Prelude.{Result, Ok, Err}
use Rattle.lists.specs.Checked.{refused, line}
use Rattle.lists.specs.Refusal.{Refusal, number, line_bad, line_open, rule_extra}
use Rattle.lists.specs.Sizes.{most_rules, most_text}
use Rattle.lists.proofs.Moves.{length_part}
use Rattle.lists.specs.Bytes.{part}
use Rattle.text.specs.Engine as text
use Rattle.text.specs.Lines.{newlines, unjoined}
use Rattle.text.specs.Reading.{read_lent}
use Rattle.text.proofs.Unjoined.{unjoined-size}
use Rattle.rules.specs.Pair.{Rule}
use Rattle.rules.specs.Reading.{read_line, reader}
use Rattle.lines.specs.declared.Line.{Line}
use Rattle.lines.specs.declared.LineFault.{LineFault}
use Rattle.lines.specs.Ends.{end_from, held_in, Reaches, BadLine, Found, FaultAt}
use Rattle.lines.proofs.Held.{end-within, newlines-size}
use Rattle.rule_lines.specs.declared.Fill.{Fill}
use Rattle.rule_lines.specs.Filling.{start, held, Room}
use Rattle.rule_lines.specs.Answers.{Grown}
use Rattle.table.specs.Puts.{Kept, Added}
use Rattle.reader.specs.declared.Counts.{Counts}
use Rattle.reader.specs.declared.Place.{Place}
use Rattle.refusals.specs.declared.Refusal as code
use Rattle.refusals.specs.declared.Refusal.TheVariants.{RuleExtra}
use Rattle.refusals.specs.Refusals.{refusal_of}
use Rattle.reader.specs.Read.{collected, Fits, RulePut, NotedTo, RuleNoted, FaultTaken, Stands, Before, Reads, TakenIs}
use Rattle.reader.proofs.Line.{nul_fault, line-long, lent_open, lent-joined, room_less, room_start}
use Rattle.reader.proofs.Lines.{filled_more, upto_skip, upto_fault, upto_extra, upto_rule}
use Rattle.reader.proofs.Notes.{note_room, noted-skip, noted-fault, noted_extra, noted-rule}
use Rattle.reader.proofs.Kept.{noted-kept, room_kept}

two_modes : {b : Bool} → b ≡ true → b ≡ false → ⊥
two_modes p q = let z : ◌≡◌ {A = ℕ} 0 1 = cc in omega arith

-- the copy of a line may change
pub stands_with : (x copy copy' : List ℕ) (at number : ℕ) (v r : List ℕ) (c : Counts) → Stands x at number copy v r c → length copy' ≡ length copy → Stands x at number copy' v r c
stands_with x copy copy' at number v r c s e =
    record { short = s.short; starts = s.starts; number_at = s.number_at; copy_room = e ∙ s.copy_room; fits = s.fits }

-- ---- what a line reads to

-- 20, or 10
pub read_fault : (x : List ℕ) (at : ℕ) (f : LineFault) → FaultAt x at f
    → (f.extent.end ≡ end_from x at) × (newlines (part x at f.extent.end) ≡ f.extent.newlines) × (read_lent reader (part x at f.extent.end) ≡ text.fault (refusal_of f.refusal))
read_fault x at f w = ⊎_elim opened bad w
  where
    opened : (refusal_of f.refusal ≡ line_open) × Reaches x at f.extent true
        → (f.extent.end ≡ end_from x at) × (newlines (part x at f.extent.end) ≡ f.extent.newlines) × (read_lent reader (part x at f.extent.end) ≡ text.fault (refusal_of f.refusal))
    opened (q, j) = (j.0, j.1, lent_open (part x at f.extent.end) j.2 ∙ ap text.fault (sym q))

    bad : (refusal_of f.refusal ≡ line_bad) × Reaches x at f.extent false × BadLine (part x at f.extent.end)
        → (f.extent.end ≡ end_from x at) × (newlines (part x at f.extent.end) ≡ f.extent.newlines) × (read_lent reader (part x at f.extent.end) ≡ text.fault (refusal_of f.refusal))
    bad (q, j, b) =
        let bytes = unjoined (part x at f.extent.end) in
        (j.0, j.1, lent-joined (part x at f.extent.end) j.2 ∙ ⊎_elim (line-long bytes) (nul_fault bytes) b ∙ ap text.fault (sym q))

-- one that is read
pub reads_as : (x copy : List ℕ) (at : ℕ) (found : Line) → Found x copy at found → read_lent reader (part x at found.extent.end) ≡ read_line (held_in x copy at found)
reads_as x copy at found f = lent-joined (part x at found.extent.end) f.joined_at.2 ∙ ap read_line (sym f.held)

-- ---- what fits

module _ (x copy : List ℕ) (at number : ℕ) (v r : List ℕ) (c : Counts) (s : Stands x at number copy v r c) where
  -- the numbers stay small, whatever the line at hand
  pub line_small : (e n : ℕ) → e ≡ end_from x at → newlines (part x at e) ≡ n → (at ≤ e) × (e ≤ length x) × (number + n ≤ e + 1)
  line_small e n q k =
      let (from, to) = end-within x at e s.starts q in
      (from, to, omega (arith, s.number_at, newlines-size (part x at e), length_part x at e to))

  module _ (found : Line) (f : Found x copy at found) where
    abbrev bytes : List ℕ
    bytes = held_in x copy at found

    abbrev lent : List ℕ
    lent = part x at found.extent.end

    pub within : (at ≤ found.extent.end) × (found.extent.end ≤ length x)
    within = end-within x at found.extent.end s.starts f.joined_at.0

    -- what its bytes hold fits, and then what those behind it hold
    pub line_room : Room (length x - found.extent.end + length bytes + 1) v r (start c.rows c.used)
    line_room =
        let (from, to) = within in
        room_less _ _ v r (start c.rows c.used) (omega (arith, ap length f.held, unjoined-size lent, length_part x at found.extent.end to)) s.fits

    pub next_small : (number + found.extent.newlines ≤ found.extent.end + 1) × (found.extent.end ≤ most_text)
    next_small = ((line_small found.extent.end found.extent.newlines f.joined_at.0 f.joined_at.1).2, omega (arith, s.short, within.1))

-- ---- what a line adds

module _ (x copy v r t l s : List ℕ) (strict : Bool) (d : Place) (w : Reads x copy v r t l s strict d) (e k : ℕ) (q : e ≡ end_from x d.at) (j : newlines (part x d.at e) ≡ k) where
  abbrev here : text.LineRead Rule
  here = read_lent reader (part x d.at e)

  -- where the next line begins
  abbrev behind : ℕ → Counts → Place
  behind used c = record { at = e + 1; number = d.number + k + 1; counts = c; used = used }

  pub bounds : (d.at ≤ e) × (e ≤ length x) × (d.number + k ≤ e + 1) × (d.number < 65536) × (e ≤ most_text)
  bounds =
      let m = w.stands in
      let (from, to, small) = line_small x copy d.at d.number v r d.counts m e k q j in
      (from, to, small, omega (arith, m.short, m.starts, m.number_at), omega (arith, m.short))

  pub room_here : (here ≡ text.skip → ⊥) → strict ≡ false → d.used + 2 ≤ length s
  room_here y z = note_room x v r t l s d (w.before.noting z) w.stands.starts e q w.stands.short y

  goes_on : (v' r' t' l' s' : List ℕ) (used : ℕ) (c : Counts) → Before x v' r' t' l' s' strict (behind used c) → Fits (length x - e) v' r' c
      → TakenIs x d v' r' t' l' s' strict (Ok (behind used c))
  goes_on v' r' t' l' s' used c before fits =
      let (from, to, small, few, most) = bounds in
      (omega arith, omega arith, omega arith, before, room_less _ _ v' r' (start c.rows c.used) (omega arith) fits)

  stays : Fits (length x - e) v r d.counts
  stays = let (from, to, small, few, most) = bounds in room_less _ _ v r (start d.counts.rows d.counts.used) (omega arith) w.stands.fits

  -- ---- skipped

  pub taken_skip : here ≡ text.skip → TakenIs x d v r t l s strict (Ok (behind d.used d.counts))
  taken_skip y =
      goes_on v r t l s d.used d.counts
      (record {
        filled = w.before.filled;
        strictly = λ z. rw j at (upto_skip x v r t l d.at e d.number d.counts (w.before.strictly z) w.stands.starts q y);
        noting = λ z. rw j at (noted-skip x v r t l s d (w.before.noting z) w.stands.starts e q y);
      })
      stays

  -- ---- struck, for a fault of reading or 18

  module _ (v' r' s' : List ℕ) (kept : Kept d.counts.used d.counts.rows v r v' r') where
    struck : (g : code.Refusal) (o : Result Place code.Refusal) → (strict ≡ true → collected x ≡ refused (line d.number (refusal_of g)))
        → (NotedTo x v' r' t l s d → Added (d.number ∷ number (refusal_of g) ∷ []) d.used s s'
        → NotedTo x v' r' t l s' (record { at = e + 1; number = d.number + newlines (part x d.at e) + 1; counts = d.counts; used = d.used + 2 }))
        → FaultTaken s s' d (record { extent = record { end = e; newlines = k }; refusal = g }) strict o → TakenIs x d v' r' t l s' strict o
    struck g (Err h) whole more (z, same) = (z, rw same (whole z))
    struck g (Ok p) whole more (z, is, put) =
        let notes = rw j at (more (noted-kept x v r v' r' t l s d (w.before.noting z) kept) put) in
        rw is (goes_on v' r' t l s' (d.used + 2) d.counts
        (record { filled = notes.filled; strictly = λ y. absurd (two_modes y z); noting = λ y. notes })
        (room_kept (length x - e) v r v' r' d.counts stays kept))

    pub taken_fault : (g : code.Refusal) (o : Result Place code.Refusal) → here ≡ text.fault (refusal_of g)
        → FaultTaken s s' d (record { extent = record { end = e; newlines = k }; refusal = g }) strict o → TakenIs x d v' r' t l s' strict o
    taken_fault g o y =
        struck g o (λ z. upto_fault x v r t l d.at e d.number d.counts (w.before.strictly z) w.stands.starts q (refusal_of g) y)
        (λ notes put. noted-fault x v' r' t l s d notes w.stands.starts e q s' (number (refusal_of g)) put (refusal_of g) y refl)

    pub taken_extra : (p : Rule) (o : Result Place code.Refusal) → here ≡ text.rule p → most_rules ≤ d.counts.rules
        → FaultTaken s s' d (record { extent = record { end = e; newlines = k }; refusal = RuleExtra }) strict o → TakenIs x d v' r' t l s' strict o
    taken_extra p o y m =
        struck RuleExtra o (λ z. upto_extra x v r t l d.at e d.number d.counts (w.before.strictly z) w.stands.starts q p y m)
        (λ notes put. noted_extra x v' r' t l s d notes w.stands.starts e q s' 18 put p y m refl)

  -- ---- a rule

  module _ (v' r' t' l' s' : List ℕ) (fill : Fill) (m : ℕ) (g : Grown d.counts.rows (start d.counts.rows d.counts.used) v r m fill v' r' (length x - e))
      (y : here ≡ text.rule (held v' r' d.counts.rows fill)) (put : RulePut d.counts.rules d.number d.counts.rows fill t l t' l') (few : d.counts.rules < most_rules) where
    abbrev more : Counts
    more = record { rules = d.counts.rules + 1; rows = fill.rows; used = fill.used }

    noting_rule : (used : ℕ) (b : Bool) → b ≡ false → RuleNoted d.number d.used b s s' used → NotedTo x v r t l s d → NotedTo x v' r' t' l' s' (behind used more)
    noting_rule used true z noted notes = absurd (two_modes refl z)
    noting_rule used false z (is, note) notes =
        rw (is, ← j) (noted-rule x v r t l s d notes w.stands.starts e q s' 0 note v' r' t' l' fill m (length x - e) g y put few refl)

    pub taken_rule : (used : ℕ) → RuleNoted d.number d.used strict s s' used → TakenIs x d v' r' t' l' s' strict (Ok (behind used more))
    taken_rule used noted =
        goes_on v' r' t' l' s' used more
        (record {
          filled = filled_more v r t l v' r' t' l' d.number d.counts w.before.filled fill m (length x - e) g put few;
          strictly = λ z. rw j at (upto_rule x v r t l d.at e d.number d.counts (w.before.strictly z) w.stands.starts q v' r' t' l' fill m (length x - e) g y put few);
          noting = λ z. noting_rule used strict z noted (w.before.noting z);
        })
        (room_start _ _ v' r' fill (omega arith) g.room)
