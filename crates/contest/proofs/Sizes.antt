-- Document 02, Item 7: the list fits its target.
-- Assumes nothing.
use Prim.Native.Nat.{ℕ, suc, ◌+◌, ◌*◌, ◌≤◌}
use mathlib.Core.Path.{◌≡◌, refl, sym, ap, ap₂, ◌∙◌, subst}
use mathlib.Core.Bool.{Bool, true, false, not, ◌||◌}
use mathlib.Core.List.{List, [], ◌∷◌, map}
use Rattle.std.specs.Prelude.{Some}
use native.Mathlib.Omega.{arith}
use lib.Dec.{eqb, leb}
use lib.ListN.{length, length-append, length-map}
use borrow.Author.Tests.{eq-eqb, leb-true, not-true}
use Rattle.lists.specs.Lists.{pick, all, any, reject, cat, All}
use Rattle.lists.specs.Bytes.{Bytes, same_bytes, holds, among, distinct, clean}
use Rattle.lists.specs.Runs.{split_at}
use Rattle.lists.specs.Checked.{require, found, Holds}
use Rattle.lists.specs.Refusal.{target_short, set_bad, device_bad, outcome_bad}
use Rattle.lists.proofs.Checked.{holds-map, holds-bind, holds-seq, holds-require, holds-found}
use Rattle.lists.proofs.Records.{bytes-first}
use Rattle.lists.proofs.Tests.{and_both, or-true, neither}
use Rattle.lists.proofs.Lists.{reject-size, pick_both, All-map, All-append, all_each}
use Rattle.lists.proofs.Bytes.{same-eq, same-sym, bytes_rest}
use Rattle.outcome.specs.Content.{ok_link, ok_name, ok_part}
use Rattle.outcome.specs.State.{State, Good}
use Rattle.contest.specs.Contest.{firsts, links_of, claims, Claimant, claimant, claimants, positions, highest, Listed, listed_by, contest}
use Rattle.bits.specs.Fields.{packed}
use Rattle.device.specs.Device as D
use Rattle.device.specs.Device.{Device, chain}
use Rattle.outcome.proofs.RoundTrip.{back}
use Rattle.engine.specs.Operations.{decode_for}
use Rattle.sets.specs.Sets.{long_fields, enc_long, encode_set}
use Rattle.sets.specs.Answer.{of_set, of_record}
use Rattle.sets.specs.Lent.{Lent, enc_lent, encode_lent, decode_lent}
use Rattle.sets.proofs.Lent.{lent_laid_out}
use Rattle.contest.specs.Operation.{enc_listed, fullest_contest, states_from, states_of, contest_checked}
use Rattle.contest.specs.Promise.{Claims}
use Rattle.contest.proofs.Order.{highest-is}
use Rattle.contest.proofs.Contest.{listed-any, all_among, distinct-firsts, any-claims, claimants_hold}

-- ---- how many names of a list pass a test

abbrev one_if : Bool → ℕ
one_if true = 1
one_if false = 0

abbrev count : (List ℕ → Bool) → List (List ℕ) → ℕ
count p [] = 0
count p (x ∷ xs) = one_if (p x) + count p xs

one-or : (a b : Bool) → one_if (a || b) ≤ one_if a + one_if b
one-or true b = omega arith
one-or false b = omega arith

count-or : (p q : List ℕ → Bool) (xs : List (List ℕ)) → count (λ x. p x || q x) xs ≤ count p xs + count q xs
count-or p q [] = omega arith
count-or p q (x ∷ xs) = omega (arith, count-or p q xs, one-or (p x) (q x))

count_none : (xs : List (List ℕ)) → count (λ x. among x []) xs ≡ 0
count_none [] = refl
count_none (x ∷ xs) = omega (arith, count_none xs)

-- a name that is not among them
count-absent : (l : List ℕ) (xs : List (List ℕ)) → among l xs ≡ false → count (λ x. same_bytes l x) xs ≡ 0
count-absent l [] h = refl
count-absent l (x ∷ xs) h =
    let (p, q) = neither (same_bytes x l) (among l xs) h in
    ap₂ ◌+◌ (ap one_if (same-sym l x ∙ p)) (count-absent l xs q)

count_same : (l : List ℕ) (xs : List (List ℕ)) → distinct xs ≡ true → count (λ x. same_bytes l x) xs ≤ 1
count_same l [] h = omega arith
count_same l (x ∷ xs) h =
    let (p, q) = and_both (not (among x xs)) (distinct xs) h in
    at (same_bytes l x) refl (not-true (among x xs) p) (count_same l xs q)
  where
    at : (t : Bool) → same_bytes l x ≡ t → among x xs ≡ false → count (λ x. same_bytes l x) xs ≤ 1 → one_if t + count (λ x. same_bytes l x) xs ≤ 1
    at true e n ih = omega (arith, count-absent l xs (ap (λ (y : List ℕ). among y xs) (same-eq l x e) ∙ n))
    at false e n ih = omega arith

-- of distinct names, no more stand among others than there are of those
count-among : (ls xs : List (List ℕ)) → distinct xs ≡ true → count (λ x. among x ls) xs ≤ length ls
count-among [] xs h = omega (arith, count_none xs)
count-among (l ∷ ls) xs h =
    omega (arith, count-or (λ x. same_bytes l x) (λ x. among x ls) xs, count_same l xs h, count-among ls xs h)

-- ---- all claims of some names

abbrev total : List (List ℕ) → ℕ → List State → ℕ
total [] n ss = 0
total (x ∷ xs) n ss = length (claimants x n ss) + total xs n ss

total-none : (xs : List (List ℕ)) (n : ℕ) → total xs n [] ≡ 0
total-none [] n = refl
total-none (x ∷ xs) n = omega (arith, total-none xs n)

claimants-length : (x : List ℕ) (n : ℕ) (s : State) (ss : List State) → length (claimants x n (s ∷ ss)) ≡ one_if (claims x s) + length (claimants x (suc n) ss)
claimants-length x n s ss = at (claims x s)
  where
    at : (t : Bool) → length (pick t (claimant n s ∷ claimants x (suc n) ss) (claimants x (suc n) ss)) ≡ one_if t + length (claimants x (suc n) ss)
    at true = omega arith
    at false = omega arith

total-more : (xs : List (List ℕ)) (n : ℕ) (s : State) (ss : List State) → total xs n (s ∷ ss) ≡ count (λ x. claims x s) xs + total xs (suc n) ss
total-more [] n s ss = refl
total-more (x ∷ xs) n s ss = omega (arith, claimants-length x n s ss, total-more xs n s ss)

total-links : (xs : List (List ℕ)) (n : ℕ) (ss : List State) → distinct xs ≡ true → total xs n ss ≤ length (links_of ss)
total-links xs n [] h = omega (arith, total-none xs n)
total-links xs n (s ∷ ss) h =
    omega (arith, total-more xs n s ss, count-among s.links xs h, total-links xs (suc n) ss h, length-append s.links (links_of ss))

-- ---- one row

-- a position that is taken out
others_fewer : (p : ℕ) (ps : List ℕ) → holds p ps ≡ true → suc (length (reject (λ q. eqb q p) ps)) ≤ length ps
others_fewer p [] h = let z : ◌≡◌ {A = ℕ} 0 1 = cc in absurd (omega arith)
others_fewer p (q ∷ ps) h = at (eqb q p) h (others_fewer p ps)
  where
    at : (t : Bool) → (t || holds p ps) ≡ true → (holds p ps ≡ true → suc (length (reject (λ q. eqb q p) ps)) ≤ length ps)
        → suc (length (pick t (reject (λ q. eqb q p) ps) (q ∷ reject (λ q. eqb q p) ps))) ≤ suc (length ps)
    at true h ih = let k = reject-size (λ q. eqb q p) ps in omega arith
    at false h ih = let k = ih h in omega arith

positions_in : (cs : List Claimant) → All (λ (c : Claimant). holds c.position (positions cs) ≡ true) cs
positions_in [] = tt
positions_in (c ∷ cs) = (
  ap (λ (t : Bool). t || holds c.position (positions cs)) (eq-eqb c.position c.position refl),
  All-map (λ (d : Claimant). holds d.position (positions cs) ≡ true) (λ (d : Claimant). holds d.position (positions (c ∷ cs)) ≡ true)
      (λ d h. ap (λ (t : Bool). eqb c.position d.position || t) h ∙ or-true (eqb c.position d.position)) cs (positions_in cs),
)

row-size : (x : List ℕ) (c : Claimant) (cs : List Claimant) → length x ≤ 128 → length (enc_listed (listed_by x (c ∷ cs))) ≤ 131 * length (c ∷ cs)
row-size x c cs h =
    let (p, ps) = positions_in (c ∷ cs) in
    let q : holds (highest c cs).position (positions (c ∷ cs)) ≡ true = highest-is (λ (d : Claimant). holds d.position (positions (c ∷ cs)) ≡ true) c cs p ps in
    let f = others_fewer (highest c cs).position (positions (c ∷ cs)) q in
    omega (arith, length-append x (listed_by x (c ∷ cs)).others, length-map (c ∷ cs) (λ (d : Claimant). d.position))

-- ---- all rows

module _ (ss : List State) where
  abbrev listed_for : List ℕ → Listed
  listed_for x = listed_by x (claimants x 1 ss)

  -- a name that some record claims, and that a record may hold
  abbrev Fine : List ℕ → Type 0
  Fine x = (any (claims x) ss ≡ true) × (length x ≤ 128)

  one_size : (x : List ℕ) → Fine x → length (enc_listed (listed_for x)) ≤ 131 * length (claimants x 1 ss)
  one_size x (h, l) = let (k, c) = any-claims x ss h in at k c (claimants x 1 ss) refl
    where
      at : (k : ℕ) → Claims x ss k → (cs : List Claimant) → claimants x 1 ss ≡ cs → length (enc_listed (listed_by x cs)) ≤ 131 * length cs
      at k c [] e = absurd (claimants_hold (λ _. ⊥) x 1 ss (subst (All (λ (_ : Claimant). ⊥)) (sym e) tt) k c)
      at k c (d ∷ ds) e = row-size x d ds l

  rows_size : (xs : List (List ℕ)) → All Fine xs → length (cat enc_listed (map listed_for xs)) ≤ 131 * total xs 1 ss
  rows_size [] h = omega arith
  rows_size (x ∷ xs) (h, hs) =
      let i = one_size x h in
      let j = rows_size xs hs in
      omega (arith, length-append (enc_listed (listed_for x)) (cat enc_listed (map listed_for xs)))

-- ---- records that are sound

-- to 16 links of at most 128 bytes
abbrev pub Sized : State → Type 0
Sized s = (length s.links ≤ 16) × All (λ (x : List ℕ). length x ≤ 128) s.links

pub good_sized : (n : ℕ) (s : State) → Good n s → Sized s
good_sized n s g = (
  g.links.few,
  All-map (λ (x : List ℕ). ok_link x ≡ true) (λ (x : List ℕ). length x ≤ 128)
      (λ x h. let (p, _) = and_both (ok_name x) (clean x) h in leb-true (length x) 128 (and_both (leb (length x) 128) (all ok_part (split_at 47 x)) p).0)
      s.links (all_each ok_link s.links g.links.each),
)

links_few : (ss : List State) → All Sized ss → length (links_of ss) ≤ 16 * length ss
links_few [] h = omega arith
links_few (s ∷ ss) ((h, _), hs) = let i = links_few ss hs in omega (arith, length-append s.links (links_of ss))

links_short : (ss : List State) → All Sized ss → All (λ (x : List ℕ). length x ≤ 128) (links_of ss)
links_short [] h = tt
links_short (s ∷ ss) ((_, h), hs) = All-append (λ (x : List ℕ). length x ≤ 128) s.links (links_of ss) h (links_short ss hs)

reject-All : (P : List ℕ → Type 0) (out : List ℕ → Bool) (xs : List (List ℕ)) → All P xs → All P (reject out xs)
reject-All P out [] h = tt
reject-All P out (x ∷ xs) (h, hs) =
    let i = reject-All P out xs hs in
    pick_both (All P) (out x) (reject out xs) (x ∷ reject out xs) i (h, i)

firsts-All : (P : List ℕ → Type 0) (xs : List (List ℕ)) → All P xs → All P (firsts xs)
firsts-All P [] h = tt
firsts-All P (x ∷ xs) (h, hs) = (h, reject-All P (λ y. same_bytes y x) (firsts xs) (firsts-All P xs hs))

All_both : (P Q : List ℕ → Type 0) (xs : List (List ℕ)) → All P xs → All Q xs → All (λ (x : List ℕ). P x × Q x) xs
All_both P Q [] h k = tt
All_both P Q (x ∷ xs) (h, hs) (k, ks) = ((h, k), All_both P Q xs hs ks)

-- of up to 64 of them
pub contest-fits : (ss : List State) → length ss ≤ 64 → All Sized ss → length (cat enc_listed (contest ss)) ≤ fullest_contest
unfolding contest
contest-fits ss m h =
    let ns : List (List ℕ) = firsts (links_of ss) in
    let claimed : All (λ (x : List ℕ). any (claims x) ss ≡ true) ns =
    All-map (λ (x : List ℕ). among x ns ≡ true) (λ (x : List ℕ). any (claims x) ss ≡ true) (λ x h. sym (listed-any x ss) ∙ h) ns (all_among ns)
    in
    let short : All (λ (x : List ℕ). length x ≤ 128) ns = firsts-All (λ (x : List ℕ). length x ≤ 128) (links_of ss) (links_short ss h) in
    let a = rows_size ss ns (All_both (λ (x : List ℕ). any (claims x) ss ≡ true) (λ (x : List ℕ). length x ≤ 128) ns claimed short) in
    let b = total-links ns 1 ss (distinct-firsts (links_of ss)) in
    let c = links_few ss h in
    omega arith

-- ---- the answer

abbrev BytesOf : Lent → Type 0
BytesOf l = Bytes l.outcome

states_sized : (n : ℕ) (ls : List Lent) → All BytesOf ls → Holds (λ (ss : List State). All Sized ss × (length ss ≡ length ls)) (states_from n ls)
unfolding states_from decode_for
states_sized n [] h = (tt, refl)
states_sized n (l ∷ ls) (h, hs) =
    let Q : List State → Type 0 = λ ss. All Sized ss × (length ss ≡ suc (length ls)) in
    holds-bind (λ (d : Device). Unit {0}) Q (found (D.decode l.device) (of_record n device_bad)) _
    (holds-map (λ (d : Device). D.decode l.device ≡ Some d) (λ (_ : Device). Unit {0}) (found (D.decode l.device) (of_record n device_bad)) (holds-found (D.decode l.device) (of_record n device_bad)) (λ _ _. tt))
    (λ d _. holds-bind (λ (s : State). decode_for d l.outcome ≡ Some s) Q (found (decode_for d l.outcome) (of_record n outcome_bad)) _ (holds-found (decode_for d l.outcome) (of_record n outcome_bad))
    (λ s e. holds-bind (λ (ss : List State). All Sized ss × (length ss ≡ length ls)) Q (states_from (suc n) ls) _ (states_sized (suc n) ls hs)
    (λ ss (k, m). ((good_sized (length (chain d)) s (back (length (chain d)) l.outcome s h e).1, k), ap suc m))))

-- the records of a set of bytes
lent-bytes : (ls : List Lent) → Bytes (cat enc_lent ls) → All BytesOf ls
lent-bytes [] h = tt
lent-bytes (l ∷ ls) h =
    let one : Bytes (enc_lent l) = bytes-first (enc_lent l) (cat enc_lent ls) h in
    let two : Bytes (enc_long l.outcome) = bytes_rest (enc_long l.device) (enc_long l.outcome) one in
    (bytes_rest (packed (long_fields (length l.outcome))) l.outcome two, lent-bytes ls (bytes_rest (enc_lent l) (cat enc_lent ls) h))

set-bytes : (ls : List Lent) → Bytes (encode_lent ls) → All BytesOf ls
unfolding encode_set
set-bytes ls h = lent-bytes ls (λ i. h (suc i))

-- the states of a set, at most 64 of them
pub states_few : (set : List ℕ) → Bytes set → Holds (λ (ss : List State). All Sized ss × (length ss ≤ 64)) (states_of set)
unfolding states_of
states_few set h =
    let Q : List State → Type 0 = λ ss. All Sized ss × (length ss ≤ 64) in
    holds-bind (λ (ls : List Lent). decode_lent set ≡ Some ls) Q (found (decode_lent set) (of_set set_bad)) _ (holds-found (decode_lent set) (of_set set_bad))
    (λ ls e. let (w, _, _, m) = lent_laid_out.back set ls h e in
    holds-map (λ (ss : List State). All Sized ss × (length ss ≡ length ls)) Q (states_from 1 ls) (states_sized 1 ls (set-bytes ls (subst Bytes w h)))
    (λ ss (k, n). (k, omega arith)))

-- what the contest lists fits the room that was asked for
pub answer-fits : (set : List ℕ) (room : ℕ) → Bytes set → Holds (λ (es : List Listed). (length (cat enc_listed es) ≤ fullest_contest) × (fullest_contest ≤ room)) (contest_checked set room)
unfolding contest_checked
answer-fits set room h =
    let Q : List Listed → Type 0 = λ es. (length (cat enc_listed es) ≤ fullest_contest) × (fullest_contest ≤ room) in
    holds-seq (λ (_ : Unit {0}). leb fullest_contest room ≡ true) Q (require (leb fullest_contest room) (of_set target_short)) _ (holds-require (leb fullest_contest room) (of_set target_short))
    (λ _ r. holds-bind (λ (ss : List State). All Sized ss × (length ss ≤ 64)) Q (states_of set) _ (states_few set h)
    (λ ss (k, n). (contest-fits ss n k, leb-true fullest_contest room r)))
