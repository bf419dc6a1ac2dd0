-- Which lines are struck, line by line: each for its ground, and what is left is a text without faults.
-- Assumes nothing.
use Prim.Native.Nat.{ℕ, zero, suc, ◌+◌, ◌*◌, ◌≤◌, zero-le, suc-le-suc}
use mathlib.Core.Path.{◌≡◌, refl, ap, ◌∙◌, subst}
use mathlib.Core.Logic.{◌⊎◌, inl, inr}
use mathlib.Core.Bool.{true}
use mathlib.Core.List.{List, [], ◌∷◌, ◌++◌, map, map-append}
use Rattle.std.specs.Prelude.{Option, None, Some}
use native.Mathlib.Nat.{le_of_suc-le-suc, not-suc-le-zero}
use native.Mathlib.Omega.{arith}
use lib.ListN.{length, replicate}
use Rattle.lists.specs.Lists.{is_some}
use Rattle.lists.specs.Checked.{Placed, line, in_place}
use Rattle.lists.specs.Refusal.{label_missing}
use Rattle.text.specs.Engine.{Reader, LineRead, skip, fault, rule}
use Rattle.text.specs.Lines.{numbered, newlines, is_open, stage_of, unjoined}
use Rattle.text.specs.Reading.{rule_count, goes_to, read_lent}
use Rattle.text.specs.Rules.{rules_in}
use Rattle.text.proofs.Lines.{physical, numbered-append, total}
use Rattle.text.proofs.Collect.{Faultless}
use Rattle.text.proofs.Settle.{Aimed, Settled}
use Rattle.text.proofs.Texts.{reading_of}
use Rattle.striking.specs.Striking.{past_most, strikes_of, left_of, all_left, kept_by, answered_by, unanswered}
use Rattle.striking.specs.Wanted.{Unanswered, Answered, Ground, allowed, Grounds, becomes, become_all}
use Rattle.striking.proofs.Lines.{IsFault, Marked, lines_left, all_lines_left}

module _ (R : Reader) where
  open R use {Rule, read_line, goto}

  abbrev pub Reads : Type 0
  Reads = List (Placed (LineRead Rule))

  -- ---- each strike for its ground

  answered_ground : (r : Rule) (later : Reads) (g : Option (List ℕ)) → goto r ≡ g
      → ((answered_by R g r (rules_in later) ≡ rule r) × Answered R r later) ⊎ ((answered_by R g r (rules_in later) ≡ fault label_missing) × Unanswered R r later)
  answered_ground r later None e = inl (refl, inl e)
  answered_ground r later (Some g) e = at (goes_to R g (rules_in later)) refl
    where
      at : (o : Option ℕ) → goes_to R g (rules_in later) ≡ o
          → ((kept_by R (is_some o) r ≡ rule r) × Answered R r later) ⊎ ((kept_by R (is_some o) r ≡ fault label_missing) × Unanswered R r later)
      at None f = inr (refl, (g, e, f))
      at (Some l) f = inl (refl, inr (g, l, e, f))

  pub grounds_all : (k : ℕ) (xs : Reads) → Grounds R k xs (unanswered R (past_most k xs))
  unfolding unanswered past_most
  grounds_all k [] = tt
  grounds_all k (line n skip ∷ xs) = (refl, (refl, grounds_all k xs))
  grounds_all k (line n (fault f) ∷ xs) = (refl, (refl, grounds_all k xs))
  grounds_all zero (line n (rule r) ∷ xs) = (refl, (refl, grounds_all zero xs))
  grounds_all (suc k) (line n (rule r) ∷ xs) = (refl, (answered_ground r (unanswered R (past_most k xs)) (goto r) refl, grounds_all k xs))

  -- ---- what is left

  -- no more rules than are allowed
  pub kept_few : (k : ℕ) (xs ys : Reads) → Grounds R k xs ys → rule_count ys ≤ k
  unfolding rule_count
  kept_few k [] [] g = zero-le
  kept_few k [] (y ∷ ys) g = absurd g
  kept_few k (x ∷ xs) [] g = absurd g
  kept_few k (line n skip ∷ xs) (line m y ∷ ys) (e, (f, g)) = rw f (kept_few k xs ys g)
  kept_few k (line n (fault z) ∷ xs) (line m y ∷ ys) (e, (f, g)) = rw f (kept_few k xs ys g)
  kept_few zero (line n (rule r) ∷ xs) (line m y ∷ ys) (e, (f, g)) = rw f (kept_few zero xs ys g)
  kept_few (suc k) (line n (rule r) ∷ xs) (line m y ∷ ys) (e, (inl (f, a), g)) = rw f (suc-le-suc (kept_few k xs ys g))
  kept_few (suc k) (line n (rule r) ∷ xs) (line m y ∷ ys) (e, (inr (f, a), g)) = let i = kept_few k xs ys g in rw f (omega arith)

  aimed : (r : Rule) (later : Reads) → Answered R r later → Aimed (reading_of R) (goto r) (rules_in later)
  aimed r later (inl e) = rw e tt
  aimed r later (inr (g, l, e, f)) = rw e (l, f)

  -- each jump finds its label
  pub kept_settled : (k : ℕ) (xs ys : Reads) → Grounds R k xs ys → Settled (reading_of R) (rules_in ys)
  unfolding rules_in
  kept_settled k [] [] g = tt
  kept_settled k [] (y ∷ ys) g = absurd g
  kept_settled k (x ∷ xs) [] g = absurd g
  kept_settled k (line n skip ∷ xs) (line m y ∷ ys) (e, (f, g)) = rw f (kept_settled k xs ys g)
  kept_settled k (line n (fault z) ∷ xs) (line m y ∷ ys) (e, (f, g)) = rw f (kept_settled k xs ys g)
  kept_settled zero (line n (rule r) ∷ xs) (line m y ∷ ys) (e, (f, g)) = rw f (kept_settled zero xs ys g)
  kept_settled (suc k) (line n (rule r) ∷ xs) (line m y ∷ ys) (e, (inl (f, a), g)) = rw f (aimed r ys a, kept_settled k xs ys g)
  kept_settled (suc k) (line n (rule r) ∷ xs) (line m y ∷ ys) (e, (inr (f, a), g)) = rw f (kept_settled k xs ys g)

  -- ---- lines and what is judged of them

  -- a line is struck, or kept as it was read
  abbrev pub Fate : LineRead Rule → LineRead Rule → Type 0
  Fate x y = (y ≡ x) ⊎ (IsFault y)

  pub fate : (k : ℕ) (x y : LineRead Rule) (later : Reads) → Ground R k x y later → Fate x y
  fate k skip y later g = inl g
  fate k (fault f) y later g = inl g
  fate zero (rule r) y later g = inr (rw g tt)
  fate (suc k) (rule r) y later (inl (e, a)) = inl e
  fate (suc k) (rule r) y later (inr (e, a)) = inr (rw e tt)

  open_fault : (l : List ℕ) → is_open l ≡ true → IsFault (read_lent R l)
  unfolding read_lent
  open_fault l e = rw e tt

  fate_open : (l : List ℕ) (y : LineRead Rule) → Fate (read_lent R l) y → is_open l ≡ true → IsFault y
  fate_open l y (inl e) o = rw e (open_fault l o)
  fate_open l y (inr f) o = f

  pub marked : (k n : ℕ) (ls : List (List ℕ)) (ys : Reads) → Grounds R k (map (in_place (read_lent R)) (numbered n ls)) ys → Marked ls ys
  unfolding numbered
  marked k n [] [] g = tt
  marked k n [] (y ∷ ys) g = absurd g
  marked k n (l ∷ ls) [] g = absurd g
  marked k n (l ∷ ls) (line m y ∷ ys) (e, (f, g)) =
      (fate_open l y (fate k (read_lent R l) y ys f), marked (allowed R k (read_lent R l)) (suc (newlines l + n)) ls ys g)

  empties : (j : ℕ) → physical (replicate j []) ≡ j
  unfolding physical newlines
  empties zero = refl
  empties (suc j) = ap suc (omega (arith, empties j))

  become_here : (n : ℕ) (y : LineRead Rule) (l : List ℕ) (rest : List (List ℕ)) → numbered n (lines_left y l ++ rest) ≡ becomes R n y l ++ numbered (suc (newlines l + n)) rest
  unfolding numbered
  become_here n skip l rest = refl
  become_here n (fault f) l rest =
      numbered-append n (replicate (suc (newlines l)) []) rest ∙ ap (λ (k : ℕ). numbered n (replicate (suc (newlines l)) []) ++ numbered (k + n) rest) (empties (suc (newlines l)))
      ∙ ap (λ (k : ℕ). numbered n (replicate (suc (newlines l)) []) ++ numbered k rest) (omega arith)
  become_here n (rule r) l rest = refl

  pub become_lines : (n : ℕ) (ls : List (List ℕ)) (ys : Reads) → numbered n (all_lines_left ls ys) ≡ become_all R (numbered n ls) ys
  unfolding all_lines_left become_all numbered
  become_lines n [] ys = refl
  become_lines n (l ∷ ls) [] = refl
  become_lines n (l ∷ ls) (line m y ∷ ys) =
      become_here n y l (all_lines_left ls ys) ∙ ap (λ (ps : List (Placed (List ℕ))). becomes R n y l ++ ps) (become_lines (suc (newlines l + n)) ls ys)

  -- ---- the lines that are left read to what is kept

  module _ (empty : read_line [] ≡ skip) where
    empty-lent : read_lent R [] ≡ skip
    unfolding read_lent stage_of unjoined
    empty-lent = empty

    pub record Left (zs ys : Reads) : Type 0 where
      pub faultless : Faultless zs
      pub rules : rules_in zs ≡ rules_in ys
      pub count : rule_count zs ≡ rule_count ys

    empties_left : (n j : ℕ) (zs ys : Reads) → Left zs ys → Left (map (in_place (read_lent R)) (numbered n (replicate j [])) ++ zs) ys
    unfolding numbered rules_in rule_count newlines
    empties_left n zero zs ys h = h
    empties_left n (suc j) zs ys h =
        let i = empties_left (suc (0 + n)) j zs ys h in
        rw empty-lent record { faultless = i.faultless; rules = i.rules; count = i.count }

    line-left : (n : ℕ) (l : List ℕ) (y : LineRead Rule) (zs ys : Reads) → Fate (read_lent R l) y → Left zs ys → Left (map (in_place (read_lent R)) (becomes R n y l) ++ zs) (line n y ∷ ys)
    unfolding rules_in rule_count
    line-left n l skip zs ys (inl e) h = rw (← e) record { faultless = h.faultless; rules = h.rules; count = h.count }
    line-left n l skip zs ys (inr f) h = absurd f
    line-left n l (fault f) zs ys e h =
        let i = empties_left n (suc (newlines l)) zs ys h in
        record { faultless = i.faultless; rules = i.rules; count = i.count }
    line-left n l (rule r) zs ys (inl e) h =
        rw (← e) record { faultless = h.faultless; rules = ap (λ (ps : List (Placed Rule)). line n r ∷ ps) h.rules; count = ap suc h.count }
    line-left n l (rule r) zs ys (inr f) h = absurd f

    pub all_left_lem : (k n : ℕ) (ls : List (List ℕ)) (ys : Reads) → Grounds R k (map (in_place (read_lent R)) (numbered n ls)) ys
        → Left (map (in_place (read_lent R)) (become_all R (numbered n ls) ys)) ys
    unfolding numbered become_all rules_in rule_count
    all_left_lem k n [] [] g = record { faultless = tt; rules = refl; count = refl }
    all_left_lem k n [] (y ∷ ys) g = absurd g
    all_left_lem k n (l ∷ ls) [] g = absurd g
    all_left_lem k n (l ∷ ls) (line m y ∷ ys) (e, (f, g)) =
        let i = all_left_lem (allowed R k (read_lent R l)) (suc (newlines l + n)) ls ys g in
        let zs : Reads = map (in_place (read_lent R)) (become_all R (numbered (suc (newlines l + n)) ls) ys) in
        rw (map-append (in_place (read_lent R)) (becomes R n y l) (become_all R (numbered (suc (newlines l + n)) ls) ys), ← e)
        (line-left n l y zs ys (fate k (read_lent R l) y ys f) i)

    -- ---- room for the list: a struck line has a byte of its own

    struck-some : (k : ℕ) (l : List ℕ) (y : LineRead Rule) (later : Reads) → Ground R k (read_lent R l) y later → IsFault y → 1 ≤ length l
    struck-some k [] y later g f =
        let e : y ≡ skip = subst (λ (x : LineRead Rule). Ground R k x y later) empty-lent g in
        absurd (subst IsFault e f)
    struck-some k (b ∷ l) y later g f = omega arith

    pub strikes_few : (k n : ℕ) (ls : List (List ℕ)) (ys : Reads) → Grounds R k (map (in_place (read_lent R)) (numbered n ls)) ys → length (strikes_of ys) * 2 ≤ total ls
    unfolding numbered strikes_of total
    strikes_few k n [] [] g = omega arith
    strikes_few k n [] (y ∷ ys) g = absurd g
    strikes_few k n (l ∷ ls) [] g = absurd g
    strikes_few k n (l ∷ ls) (line m y ∷ ys) (e, (f, g)) = at y (struck-some k l y ys f) (strikes_few (allowed R k (read_lent R l)) (suc (newlines l + n)) ls ys g)
      where
        at : (y : LineRead Rule) → (IsFault y → 1 ≤ length l) → length (strikes_of ys) * 2 ≤ total ls → length (strikes_of (line m y ∷ ys)) * 2 ≤ suc (length l + total ls)
        at skip h i = omega arith
        at (fault z) h i = let o = h tt in omega arith
        at (rule r) h i = omega arith

  -- ---- an accepted text loses nothing

  pub past_none : (k : ℕ) (xs : Reads) → rule_count xs ≤ k → past_most k xs ≡ xs
  unfolding past_most rule_count
  past_none k [] h = refl
  past_none k (line n skip ∷ xs) h = ap (λ (ys : Reads). line n skip ∷ ys) (past_none k xs h)
  past_none k (line n (fault f) ∷ xs) h = ap (λ (ys : Reads). line n (fault f) ∷ ys) (past_none k xs h)
  past_none zero (line n (rule r) ∷ xs) h = absurd (not-suc-le-zero h)
  past_none (suc k) (line n (rule r) ∷ xs) h = ap (λ (ys : Reads). line n (rule r) ∷ ys) (past_none k xs (le_of_suc-le-suc h))

  aimed_kept : (r : Rule) (g : Option (List ℕ)) (ps : List (Placed Rule)) → Aimed (reading_of R) g ps → answered_by R g r ps ≡ rule r
  aimed_kept r None ps a = refl
  aimed_kept r (Some g) ps (l, e) = rw e

  pub answered-all : (xs : Reads) → Settled (reading_of R) (rules_in xs) → unanswered R xs ≡ xs
  unfolding unanswered rules_in
  answered-all [] s = refl
  answered-all (line n skip ∷ xs) s = ap (λ (ys : Reads). line n skip ∷ ys) (answered-all xs s)
  answered-all (line n (fault f) ∷ xs) s = ap (λ (ys : Reads). line n (fault f) ∷ ys) (answered-all xs s)
  answered-all (line n (rule r) ∷ xs) (a, s) = rw (answered-all xs s, aimed_kept r (goto r) (rules_in xs) a)

  pub no-strikes : (xs : Reads) → Faultless xs → strikes_of xs ≡ []
  unfolding strikes_of
  no-strikes [] f = refl
  no-strikes (line n skip ∷ xs) f = no-strikes xs f
  no-strikes (line n (fault z) ∷ xs) f = absurd f
  no-strikes (line n (rule r) ∷ xs) f = no-strikes xs f

  left-same : (n : ℕ) (x : LineRead Rule) (xs : Reads) (l : List ℕ) → Faultless (line n x ∷ xs) → (left_of x l ≡ l) × Faultless xs
  left-same n skip xs l f = (refl, f)
  left-same n (fault z) xs l f = absurd f
  left-same n (rule r) xs l f = (refl, f)

  pub left-all : (n : ℕ) (ls : List (List ℕ)) → Faultless (map (in_place (read_lent R)) (numbered n ls)) → all_left ls (map (in_place (read_lent R)) (numbered n ls)) ≡ ls
  unfolding numbered all_left
  left-all n [] f = refl
  left-all n (l ∷ ls) f =
      let (e, g) = left-same n (read_lent R l) (map (in_place (read_lent R)) (numbered (suc (newlines l + n)) ls)) l f in
      rw (e, left-all (suc (newlines l + n)) ls g)
