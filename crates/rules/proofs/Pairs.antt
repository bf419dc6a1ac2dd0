-- An accepted line's rule is what its pairs read as, one by one.
-- Assumes nothing.
use Prim.Native.Nat.{ℕ, zero, suc}
use mathlib.Core.Path.{◌≡◌, refl, sym, ap, ◌∙◌, subst}
use mathlib.Core.Bool.{Bool, true, false, not, ◌&&◌, ◌||◌}
use mathlib.Core.List.{List, [], ◌∷◌}
use lib.Dec.{eqb, leb}
use lib.ListN.{length}
use borrow.Author.Tests.{eqb-true}
use Rattle.lists.specs.Bytes.{holds}
use Rattle.lists.specs.Runs.{Part}
use Rattle.lists.specs.Checked.{Checked, refused, ok, ◌>>=◌, ◌>>◌, require, Holds}
use Rattle.lists.specs.Refusal.{Refusal, pair_extra}
use Rattle.lists.specs.Sizes.{most_pairs, most_line}
use Rattle.lists.proofs.Checked.{holds-bind, holds-seq, holds-map, holds-require, holds_self}
use Rattle.text.specs.Engine as text
use Rattle.rules.specs.Key.{LABEL, GOTO, same_key}
use Rattle.rules.specs.Pair.{Pair, Rule}
use Rattle.rules.specs.Reading.{unblank, read_pair, again, comma_then, others, read_pairs, rule_read, comment_or, read_unblank, read_sized, read_line}
use Rattle.rules.specs.Pairs.{Pairs}

-- one more pair in front: the line ends behind it, or a comma and the others follow
module _ (bs : List ℕ) (p : Part Pair) (here : read_pair bs ≡ ok p) (later : List ℕ → Checked Refusal (List Pair)) (each : (rest : List ℕ) → Holds (Pairs rest) (later rest)) where
  abbrev Behind : List Pair → Type 0
  Behind ps = Pairs bs (p.value ∷ ps)

  more : (b : ℕ) (rest : List ℕ) → p.rest ≡ b ∷ rest → b ≡ 44 → (ps : List Pair) → Pairs rest ps → Behind ps
  more b rest e f [] h = absurd h
  more b rest e f (q ∷ ps) h =
      let r : p.rest ≡ 44 ∷ rest = e ∙ ap (λ (c : ℕ). c ∷ rest) f in
      (rest, here ∙ ap (λ (l : List ℕ). ok (record { value = p.value; rest = l })) r, h)

  comma_pairs : (b : ℕ) (rest : List ℕ) → p.rest ≡ b ∷ rest → (t : Bool) → eqb b 44 ≡ t → Holds Behind (comma_then t rest later)
  comma_pairs b rest e true f = holds-map (Pairs rest) Behind (later rest) (each rest) (λ ps h. more b rest e (eqb-true b 44 f) ps h)
  comma_pairs b rest e false f = tt

  others-pairs : (rest : List ℕ) → p.rest ≡ rest → Holds Behind (others rest later)
  others-pairs [] e = here ∙ ap (λ (l : List ℕ). ok (record { value = p.value; rest = l })) e
  others-pairs (b ∷ rest) e = comma_pairs b rest e (eqb b 44) refl

pub pairs_read : (k : ℕ) (label goto : Bool) (bs : List ℕ) → Holds (Pairs bs) (read_pairs k label goto bs)
unfolding read_pairs
pairs_read zero label goto bs = holds-bind (λ (_ : Part Pair). Unit {0}) (Pairs bs) (read_pair bs) _ (holds-map (λ (p : Part Pair). read_pair bs ≡ ok p) (λ (_ : Part Pair). Unit {0}) (read_pair bs) (holds_self (read_pair bs)) (λ _ _. tt)) (λ _ _. tt)
pairs_read (suc k) label goto bs =
    holds-bind (λ (p : Part Pair). read_pair bs ≡ ok p) (Pairs bs) (read_pair bs) _ (holds_self (read_pair bs))
    (λ p here. holds-seq (λ (_ : Unit {0}). not (again p.value.key label goto) ≡ true) (Pairs bs) (require (not (again p.value.key label goto)) pair_extra) _
    (holds-require (not (again p.value.key label goto)) pair_extra)
    (λ _ _. holds-bind (λ (ps : List Pair). Pairs bs (p.value ∷ ps)) (Pairs bs) (others p.rest (λ rest. read_pairs k (label || same_key p.value.key LABEL) (goto || same_key p.value.key GOTO) rest)) _
    (others-pairs bs p here (λ rest. read_pairs k (label || same_key p.value.key LABEL) (goto || same_key p.value.key GOTO) rest)
    (λ rest. pairs_read k (label || same_key p.value.key LABEL) (goto || same_key p.value.key GOTO) rest) p.rest refl)
    (λ ps h. h)))

-- ---- a line

abbrev LinePairs : List ℕ → text.LineRead Rule → Type 0
LinePairs bs text.skip = Unit {0}
LinePairs bs (text.fault f) = Unit {0}
LinePairs bs (text.rule r) = Pairs bs r

read_pairs_lem : (bs : List ℕ) (c : Checked Refusal (List Pair)) → Holds (Pairs bs) c → LinePairs bs (rule_read c)
read_pairs_lem bs (refused f) h = tt
read_pairs_lem bs (ok ps) h = h

comment-pairs : (t : Bool) (bs : List ℕ) → LinePairs bs (comment_or t bs)
comment-pairs true bs = tt
comment-pairs false bs = read_pairs_lem bs (read_pairs most_pairs false false bs) (pairs_read most_pairs false false bs)

unblank-pairs : (bs : List ℕ) → LinePairs bs (read_unblank bs)
unblank-pairs [] = tt
unblank-pairs (b ∷ bs) = comment-pairs (eqb b 35) (b ∷ bs)

sized-pairs : (t : Bool) (l : List ℕ) → LinePairs (unblank l) (read_sized t l)
sized-pairs true l = unblank-pairs (unblank l)
sized-pairs false l = tt

pub line-pairs : (l : List ℕ) (r : Rule) → read_line l ≡ text.rule r → Pairs (unblank l) r
unfolding read_line
line-pairs l r e = subst (LinePairs (unblank l)) e (sized-pairs (leb (length l) most_line && not (holds 0 l)) l)
