-- One command, and the commands one behind the other.
-- Assumes nothing.
use Prim.Native.Nat.{ℕ, suc, ◌+◌, ◌-◌, ◌≤◌}
use mathlib.Core.Path.{◌≡◌, refl, sym, ap, ◌∙◌}
use mathlib.Core.Bool.{Bool, false}
use Rattle.std.specs.Prelude.{None, Some}
use mathlib.Core.List.{List, [], ◌∷◌, ◌++◌}
use native.Mathlib.Omega.{arith}
use lib.ListN.{length, take, drop, length-append}
use lib.Seq.{length-take-le}
use Rattle.lists.specs.Lists.{cat}
use Rattle.lists.specs.Checked.{Checked, refused, ok, ◌>>=◌}
use Rattle.lists.specs.Refusal.{Refusal, substitution_long}
use Rattle.bits.specs.Fields.{packed}
use Rattle.bits.proofs.Fields.{length-packed}
use Rattle.splice.specs.Moves.{stored}
use Rattle.splice.proofs.Laws.{length-stored}
use Rattle.entries.specs.Entry.{Property}
use Rattle.device.specs.Device.{Device}
use Rattle.outcome.specs.State.{Run}
use Rattle.engine.specs.Substitute.{Source, filled}
use Rattle.engine.specs.Operations.{Command, enc_command, commands, run_list}
use Rattle.insertion.proofs.Laws.{appended_none, appended_both}
use Rattle.substitution.specs.Turns.{Text}
use Rattle.run_list.specs.Lists.{head_fields, count_fields, Made, Listed, Leads, Written}
use Rattle.run_list.proofs.Heads.{lent_part, lent-whole, lent-first, head_stored}

-- ---- one command

-- its bytes: a head of two, and the text
command_length : (builtin : Bool) (x : List ℕ) → length (enc_command (record { builtin = builtin; text = x })) ≡ 2 + length x
command_length builtin x =
    length-append (packed (head_fields builtin (length x))) x ∙ ap (λ (i : ℕ). i + length x) (length-packed (head_fields builtin (length x)) 2 refl)

-- k bytes of text in a part y of the target from `at + 2` on, and then its head h
module _ (t y t₁ h t₂ : List ℕ) (at k : ℕ) (builtin : Bool) (o : Checked Refusal (List ℕ)) (room : at + 514 ≤ length t)
    (w : Text o (take (at + 2 + 512 - (at + 2)) (drop (at + 2) t)) k y) (f : length y ≡ 512) (few : k ≤ 512)
    (e₁ : t₁ ≡ lent_part t (at + 2) (at + 2 + 512) y)
    (g : h ≡ packed (head_fields builtin k)) (e₂ : t₂ ≡ lent_part t₁ at (at + 2) h) where
  text-length : length (take k y) ≡ k
  text-length = length-take-le k y (omega arith)

  head_length : length h ≡ 2
  head_length = ap length g ∙ length-packed (head_fields builtin k) 2 refl

  text_there : t₁ ≡ stored t (at + 2) (take k y)
  text_there = e₁ ∙ lent-first t y (at + 2) (at + 2 + 512) (omega arith) (omega arith) (omega arith) k (omega arith) w.behind

  target_length : length t₁ ≡ length t
  target_length = ap length text_there ∙ length-stored t (at + 2) (take k y) (omega (arith, text-length))

  both_there : t₂ ≡ stored t at (h ++ take k y)
  both_there =
      let n : at + 2 ≡ at + length h = omega (arith, head_length) in
      e₂
      ∙ lent-whole t₁ h at (at + 2) (omega arith) (omega (arith, target_length)) (omega (arith, head_length))
      ∙ ap (λ (z : List ℕ). stored z at h) (text_there ∙ ap (λ (i : ℕ). stored t i (take k y)) n)
      ∙ head_stored t at h (take k y) (omega (arith, head_length))

  pub command_made : Made builtin o t at (Some (at + 2 + k)) t₂
  command_made =
      let x : List ℕ = take k y in (
        x,
        w.is,
        record {
          end = omega (arith, command_length builtin x, text-length);
          room = omega arith;
          bytes = both_there ∙ ap (λ (z : List ℕ). stored t at (z ++ x)) (g ∙ ap (λ (i : ℕ). packed (head_fields builtin i)) (sym text-length));
        },
      )

-- ---- one command, and the others

module _ (d : Device) (ps : List Property) (y : List ℕ) (run : Run) (others : List Run) where
  abbrev pub source_of : Source
  source_of = record { device = d; place = run.place; properties = ps; output = y }

  pub commands-more : (l l₁ : List ℕ) (at k : ℕ) → Made run.builtin (filled false source_of run.template) l at (Some k) l₁
      → Leads (commands d ps y (run ∷ others)) l at (commands d ps y others) l₁ k
  unfolding commands
  commands-more l l₁ at k (x, e, p) (Some n) m (cs, f, q) =
      let c : Command = record { builtin = run.builtin; text = x } in
      (c ∷ cs, rw (e, f), appended_both (enc_command c) (cat enc_command cs) l at k l₁ p (Some n) m q)
  commands-more l l₁ at k (x, e, p) None m f = rw (e, f)

  pub commands_full : filled false source_of run.template ≡ refused substitution_long → commands d ps y (run ∷ others) ≡ refused substitution_long
  unfolding commands
  commands_full e = rw e

pub commands-none : (d : Device) (ps : List Property) (y l : List ℕ) (at : ℕ) → at ≤ length l → Listed (commands d ps y []) l at (Some at) l
unfolding commands
commands-none d ps y l at h = ([], refl, appended_none l at h)

-- as many commands as runs
pub commands-count : (d : Device) (ps : List Property) (y : List ℕ) (rs : List Run) (cs : List Command) → commands d ps y rs ≡ ok cs → length cs ≡ length rs
unfolding commands
commands-count d ps y [] cs e = let z : cs ≡ [] = cc in ap length z
commands-count d ps y (r ∷ rs) cs e = go (filled false (source_of d ps y r rs) r.template) (commands d ps y rs) e (commands-count d ps y rs)
  where
    go : (o : Checked Refusal (List ℕ)) (p : Checked Refusal (List Command))
        → (o >>= λ x. p >>= λ others. ok (record { builtin = r.builtin; text = x } ∷ others)) ≡ ok cs
        → ((others : List Command) → p ≡ ok others → length others ≡ length rs) → length cs ≡ length (r ∷ rs)
    go (refused f) p e h = let z : ◌≡◌ {A = ℕ} 0 1 = cc in absurd (omega arith)
    go (ok x) (refused f) e h = let z : ◌≡◌ {A = ℕ} 0 1 = cc in absurd (omega arith)
    go (ok x) (ok others) e h =
        let c : Command = record { builtin = r.builtin; text = x } in
        let z : c ∷ others ≡ cs = cc in
        sym (ap length z) ∙ ap suc (h others refl)

-- ---- the list

-- entries behind the first byte, and then the count in it
pub list_written : (o : Checked Refusal (List Command)) (t t₁ h t₂ : List ℕ) (n k : ℕ) → 1 ≤ length t → ((cs : List Command) → o ≡ ok cs → length cs ≡ n)
    → Listed o t 1 (Some k) t₁ → length t₁ ≡ length t → h ≡ packed (count_fields n) → t₂ ≡ lent_part t₁ 0 1 h → Written o t (Some k) t₂
unfolding run_list
list_written o t t₁ h t₂ n k room c (cs, e, p) l g f =
    let lh : length h ≡ 1 = ap length g ∙ length-packed (count_fields n) 1 refl in
    let x : List ℕ = cat enc_command cs in
    let m : 1 ≡ 0 + length h = omega arith in
    let q : packed (count_fields n) ≡ packed (count_fields (length cs)) = ap (λ (i : ℕ). packed (count_fields i)) (sym (c cs e)) in (
      cs,
      e,
      record {
        end = omega (arith, p.end, length-append (packed (count_fields (length cs))) x, length-packed (count_fields (length cs)) 1 refl);
        room = p.room;
        bytes =
            f
            ∙ lent-whole t₁ h 0 1 (omega arith) (omega arith) (omega arith)
            ∙ ap (λ (z : List ℕ). stored z 0 h) (p.bytes ∙ ap (λ (i : ℕ). stored t i x) m)
            ∙ head_stored t 0 h x (omega arith)
            ∙ ap (λ (z : List ℕ). stored t 0 (z ++ x)) (g ∙ q);
      },
    )
