-- The lines of a text one after the other: what is known behind each, at the start and at the end.
-- Assumes nothing.
use Prim.Native.Nat.{ℕ, zero, suc, ◌+◌, ◌-◌, ◌*◌, ◌≤◌, ◌<◌}
use mathlib.Core.Path.{◌≡◌, refl, sym, ap, ap₂, ◌∙◌}
use mathlib.Core.Bool.{Bool, true, false}
use mathlib.Core.List.{List, [], ◌∷◌, ◌++◌, map, append_assoc, append-nil}
use native.Mathlib.Omega.{arith}
use borrow.Author.Tests.{le-leb, lt-leb, eqb-false}
use lib.Dec.{eqb}
use lib.ListN.{length, take, drop, length-take}
use lib.Seq.{drop-drop, length-take-le}
use Rattle.lists.specs.Lists.{pick, All}
use Rattle.lists.specs.Checked.{Placed, line, line_of, in_place}
use Rattle.lists.specs.Sizes.{most_text, most_rules}
use Rattle.lists.proofs.Moves.{ap_at}
use Rattle.lists.specs.Bytes.{part}
use Rattle.text.specs.Engine.{LineRead, skip, fault, rule}
use Rattle.text.specs.Lines.{blank, lines_in, numbered, lines, newlines}
use Rattle.text.specs.Reading.{read_lent, reads}
use Rattle.text.specs.Rules.{rules_in}
use Rattle.text.proofs.Places.{lines_from, lines_at, lines_start, lines_end, lines_step}
use Rattle.rules.specs.Pair.{Rule}
use Rattle.rules.specs.Reading.{reader}
use Rattle.striking.specs.Striking.{past_most, strikes_of, all_left, together, unanswered, judged, strikes, struck, laid_out}
use Rattle.lines.specs.Ends.{end_from}
use Rattle.table.specs.Table.{rules_from}
use Rattle.table.specs.Puts.{Added}
use Rattle.reader.specs.Read.{noted, counted}
use Rattle.lost_jumps.specs.Lost.{emptied}
use Rattle.left_lines.specs.declared.Fate.{Fate}
use Rattle.left_lines.specs.declared.Left.{Left}
use Rattle.left_lines.specs.Left.{After, Unread, final, fault_of, FateIs, next_of, left_bytes, strike_at, Listed, Leaves, LeftIs, AllLeft}
use Rattle.left_lines.proofs.Fates.{final-step}
use Rattle.left_lines.proofs.Lines.{left_step, bytes-size, strike-step, fault_small}

-- ---- the numbers of lines

numbers-reads : (f : List ℕ → LineRead Rule) (ls : List (Placed (List ℕ))) → map line_of (map (in_place f) ls) ≡ map line_of ls
numbers-reads f [] = refl
numbers-reads f (line n l ∷ ls) = ap (λ (ns : List ℕ). n ∷ ns) (numbers-reads f ls)

numbers_past : (k : ℕ) (ls : List (Placed (LineRead Rule))) → map line_of (past_most k ls) ≡ map line_of ls
unfolding past_most
numbers_past k [] = refl
numbers_past k (line n skip ∷ ls) = ap (λ (ns : List ℕ). n ∷ ns) (numbers_past k ls)
numbers_past k (line n (fault f) ∷ ls) = ap (λ (ns : List ℕ). n ∷ ns) (numbers_past k ls)
numbers_past zero (line n (rule r) ∷ ls) = ap (λ (ns : List ℕ). n ∷ ns) (numbers_past zero ls)
numbers_past (suc k) (line n (rule r) ∷ ls) = ap (λ (ns : List ℕ). n ∷ ns) (numbers_past k ls)

pub numbers-counted : (x : List ℕ) → map line_of (counted x) ≡ map line_of (lines x)
numbers-counted x = numbers_past most_rules (reads reader x) ∙ numbers-reads (read_lent reader) (lines x)

numbers_after : (n m : ℕ) (ls : List (List ℕ)) (ys : List (Placed (LineRead Rule))) → n < m → map line_of ys ≡ map line_of (numbered m ls) → After n ys
unfolding numbered
numbers_after n m ls [] h e = tt
numbers_after n m [] (line k y ∷ ys) h e = absurd (omega (arith, ap length e))
numbers_after n m (l ∷ ls) (line k y ∷ ys) h e =
    let q : k ≡ m = cc in
    let p : map line_of ys ≡ map line_of (numbered (suc (newlines l + m)) ls) = cc in
    (omega arith, numbers_after n (suc (newlines l + m)) ls ys (omega arith) p)

-- lines with these numbers: none, or one with the number and others
pub record Here (x : List ℕ) (at e n : ℕ) (rest : List (Placed (LineRead Rule))) : Type 0 where
  pub first : LineRead Rule
  pub others : List (Placed (LineRead Rule))
  pub is : rest ≡ line n first ∷ others
  pub numbers : map line_of others ≡ map line_of (lines_at x (e + 1) (n + newlines (part x at e) + 1))
  pub after : After n others

module _ (x : List ℕ) (at e n : ℕ) (h : at ≤ length x) (q : e ≡ end_from x at) where
  here-by : (rest : List (Placed (LineRead Rule))) → map line_of rest ≡ n ∷ map line_of (lines_at x (e + 1) (suc (newlines (part x at e) + n))) → Here x at e n rest
  unfolding lines_at
  here-by [] p = absurd (omega (arith, ap length p))
  here-by (line m y ∷ ys) p =
      let a : m ≡ n = cc in
      let b : map line_of ys ≡ map line_of (numbered (suc (newlines (part x at e) + n)) (lines_from x (e + 1))) = cc in
      let c : suc (newlines (part x at e) + n) ≡ n + newlines (part x at e) + 1 = omega arith in
      record { first = y; others = ys; is = ap (λ (k : ℕ). line k y ∷ ys) a; numbers = rw c at b; after = numbers_after n (suc (newlines (part x at e) + n)) (lines_from x (e + 1)) ys (omega arith) b }

  pub here : (rest : List (Placed (LineRead Rule))) → map line_of rest ≡ map line_of (lines_at x at n) → Here x at e n rest
  here rest p = here-by rest (p ∙ ap (λ (ls : List (Placed (List ℕ))). map line_of ls) (lines_step x at e n h q))

-- ---- one line

module _ (x t s g : List ℕ) (end : ℕ) (d : Left) (w : Leaves x t s g end d) (h : d.at ≤ length x) (e k : ℕ) (q : e ≡ end_from x d.at) (j : newlines (part x d.at e) ≡ k) where
  abbrev this : Here x d.at e d.number w.rest
  this = here x d.at e d.number h q w.rest w.numbers

  pub unread-here : Unread t s d.read end d.rule (line d.number this.first ∷ this.others)
  unread-here = rw this.is at w.unread

  pub note_here : (y : LineRead Rule) × ((ys : List (Placed (LineRead Rule))) × After d.number ys × Unread t s d.read end d.rule (line d.number y ∷ ys))
  note_here = (this.first, (this.others, this.after, unread-here))

  module _ (fate : Fate) (f : (y : LineRead Rule) (ys : List (Placed (LineRead Rule))) → After d.number ys → Unread t s d.read end d.rule (line d.number y ∷ ys) → FateIs t s d.read end y ys fate) where
    abbrev is : FateIs t s d.read end this.first this.others fate
    is = f this.first this.others this.after unread-here

    pub put_room : d.used + (next_of x e - d.at) ≤ length g
    put_room = let b = bytes-size x d.at e k h q j fate.fault in omega (arith, w.short, w.room, w.used_at, b.5)

    pub strike_room : d.listed + length (strike_at d.number fate.fault) ≤ length s
    strike_room = go (eqb fate.fault 0) refl
      where
        go : (b : Bool) → eqb fate.fault 0 ≡ b → d.listed + length (pick b [] (d.number ∷ fate.fault ∷ [])) ≤ length s
        go true c = omega (arith, w.listed_small, w.unread.reached, w.unread.within)
        go false c = omega (arith, w.listed_small, is.noted (eqb-false fate.fault 0 c), is.unread.reached, is.unread.within)

    pub fault-fits : fate.fault < 65536
    fault-fits = rw is.fault (fault_small (final this.first this.others))

    -- what is put keeps before what is to be read
    listed-before : (r : ℕ) → r ≡ d.listed + length (strike_at d.number fate.fault) → r ≤ fate.read
    listed-before r z = go (eqb fate.fault 0) refl z
      where
        go : (b : Bool) → eqb fate.fault 0 ≡ b → r ≡ d.listed + length (pick b [] (d.number ∷ fate.fault ∷ [])) → r ≤ fate.read
        go true c y = omega (arith, w.listed_small, is.stays)
        go false c y = omega (arith, w.listed_small, is.noted (eqb-false fate.fault 0 c))

    module _ (g' s' : List ℕ) (used listed : ℕ) (a : used ≡ d.used + length (left_bytes x d.at e k fate.fault)) (put : Added (left_bytes x d.at e k fate.fault) d.used g g')
        (l : Listed d.number fate.fault d.listed s s' listed) where
      abbrev behind : Left
      behind = record { at = e + 1; number = d.number + k + 1; read = fate.read; rule = fate.rule; used = used; listed = listed }

      same_list : Unread t s' fate.read end fate.rule this.others
      same_list =
          let u = is.unread in
          record {
            reached = u.reached;
            within = omega (arith, u.within, l.added.size);
            notes = ap (take (end - fate.read)) (l.behind fate.read (listed-before listed l.end)) ∙ u.notes;
            values = u.values;
            rows = u.rows;
            count = u.count;
            room = u.room;
            rules = u.rules;
          }

      judged-here : unanswered reader w.rest ≡ line d.number (final this.first this.others) ∷ unanswered reader this.others
      judged-here = ap (unanswered reader) this.is ∙ final-step d.number this.first this.others

      pub line-left : LeftIs x d.at t s' g' end behind
      line-left =
          let b = bytes-size x d.at e k h q j fate.fault in
          let rest = unanswered reader this.others in
          let y = final this.first this.others in (
            omega (arith, b.0),
            omega (arith, b.1),
            record {
              short = w.short;
              room = omega (arith, w.room, put.size);
              counts = omega arith;
              number_at = omega (arith, w.number_at, b.0, b.2);
              used_at = omega (arith, a, w.used_at, b.4, b.6, b.0);
              used_small = omega (arith, a, w.used_at, b.5, b.6, b.0, b.3);
              listed_small = listed-before listed l.end;
              rest = this.others;
              unread = same_list;
              numbers = rw j at this.numbers;
              text =
                  w.text
                  ∙ ap (λ (zs : List (Placed (LineRead Rule))). take d.used g ++ together (all_left (lines_from x d.at) zs)) judged-here
                  ∙ ap (λ (bs : List ℕ). take d.used g ++ bs) (left_step x d.at e k h q j d.number y rest)
                  ∙ ap (λ (f : ℕ). take d.used g ++ (left_bytes x d.at e k f ++ together (all_left (lines_from x (e + 1)) rest))) (sym is.fault)
                  ∙ sym (append_assoc (take d.used g) (left_bytes x d.at e k fate.fault) (together (all_left (lines_from x (e + 1)) rest)))
                  ∙ ap (λ (bs : List ℕ). bs ++ together (all_left (lines_from x (e + 1)) rest)) (sym put.is ∙ ap_at (λ n. take n g') (d.used + length (left_bytes x d.at e k fate.fault)) used (sym a));
              list =
                  w.list
                  ∙ ap (λ (zs : List (Placed (LineRead Rule))). take d.listed s ++ laid_out (strikes_of zs)) judged-here
                  ∙ ap (λ (bs : List ℕ). take d.listed s ++ bs) (strike-step d.number y rest)
                  ∙ ap (λ (f : ℕ). take d.listed s ++ (strike_at d.number f ++ laid_out (strikes_of rest))) (sym is.fault)
                  ∙ sym (append_assoc (take d.listed s) (strike_at d.number fate.fault) (laid_out (strikes_of rest)))
                  ∙ ap (λ (bs : List ℕ). bs ++ laid_out (strikes_of rest)) (sym l.added.is ∙ ap_at (λ n. take n s') (d.listed + length (strike_at d.number fate.fault)) listed (sym l.end));
            },
          )

-- ---- the start and the end

pub leaves-start : (x t s g : List ℕ) (end : ℕ) (values rows : List ℕ) (count : ℕ) → length x ≤ most_text → most_text ≤ length g → end ≤ length s → noted (counted x) ≡ take end s → count * 4 ≤ length t
    → rules_from values rows t 0 count ≡ emptied (rules_in (counted x)) → Leaves x t s g end (record { at = 0; number = 1; read = 0; rule = 0; used = 0; listed = 0 })
unfolding judged strikes struck lines
leaves-start x t s g end values rows count a b c n k e = record {
  short = a;
  room = b;
  counts = omega arith;
  number_at = omega arith;
  used_at = omega arith;
  used_small = omega arith;
  listed_small = omega arith;
  rest = counted x;
  unread = record { reached = omega arith; within = c; notes = (let z : end - 0 ≡ end = omega arith in rw z (sym n)); values = values; rows = rows; count = count; room = k; rules = let z : count - 0 ≡ count = omega arith in rw z e };
  numbers = numbers-counted x ∙ ap (λ (ls : List (Placed (List ℕ))). map line_of ls) (sym (lines_start x));
  text = rw (le-leb 0 (length x) (omega arith));
  list = refl;
}

no-rest : (rest : List (Placed (LineRead Rule))) → map line_of rest ≡ [] → rest ≡ []
no-rest [] e = refl
no-rest (p ∷ ps) e = absurd (omega (arith, ap length e))

pub all_left_lem : (x t s g : List ℕ) (end : ℕ) (d : Left) → Leaves x t s g end d → length x < d.at → AllLeft x s g d
unfolding together all_left strikes_of laid_out unanswered
all_left_lem x t s g end d w h =
    let none : w.rest ≡ [] = no-rest w.rest (w.numbers ∙ ap (λ (ls : List (Placed (List ℕ))). map line_of ls) (lines_end x d.at d.number h)) in
    record {
      text = w.text ∙ rw (lt-leb d.at (length x) h) (append-nil (take d.used g));
      used = omega (arith, w.used_small, w.short, w.room);
      list = w.list ∙ rw none (append-nil (take d.listed s));
      listed = omega (arith, w.listed_small, w.unread.reached, w.unread.within);
    }
