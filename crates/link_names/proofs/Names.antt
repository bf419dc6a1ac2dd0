-- The names of a text from a place on.
-- Assumes nothing.
use Prim.Native.Nat.{ℕ, ◌+◌, ◌-◌, ◌≤◌, ◌<◌}
use mathlib.Core.Path.{◌≡◌, refl, sym, ◌∙◌, ap}
use mathlib.Core.Bool.{Bool, true, false, not}
use mathlib.Core.List.{List, [], ◌∷◌}
use native.Mathlib.Omega.{arith}
use lib.Dec.{eqb}
use lib.ListN.{length, take, drop, get_or, drop_of_length-le}
use borrow.Author.Tests.{ne_eqb}
use Rattle.lists.specs.Lists.{is_empty, reject}
use Rattle.lists.specs.Runs.{span, span_step, span_at, split_at}
use Rattle.lists.proofs.Rest.{rest_at}
use Rattle.lists.proofs.Moves.{length_part}
use Rattle.lists.proofs.Runs.{run_at, rest_of, span_ge, span-le, place_in}
use Rattle.lists.proofs.Scan.{parts_behind, split-first}
use Rattle.lists.specs.Bytes.{part}
use Rattle.scan.specs.Ends.{RunEnd, is_not}
use Rattle.link_names.specs.Names.{names}

abbrev drop_empty : List (List ℕ) → List (List ℕ)
drop_empty ls = reject (λ x. is_empty x) ls

-- behind a name: the names behind its space are those from the space on
names-behind : (bs : List ℕ) → drop_empty (parts_behind 32 (span (is_not 32) bs).rest) ≡ names (span (is_not 32) bs).rest
unfolding span split_at
names-behind [] = refl
names-behind (b ∷ bs) = go (eqb b 32) refl (names-behind bs)
  where
    go : (t : Bool) → eqb b 32 ≡ t → drop_empty (parts_behind 32 (span (is_not 32) bs).rest) ≡ names (span (is_not 32) bs).rest
        → drop_empty (parts_behind 32 (span_step (not (eqb b 32)) b bs (span (is_not 32) bs)).rest) ≡ names (span_step (not (eqb b 32)) b bs (span (is_not 32) bs)).rest
    go true e h = rw (e, e)
    go false e h = rw e h

keep_some : (x : List ℕ) (ls : List (List ℕ)) → 0 < length x → drop_empty (x ∷ ls) ≡ x ∷ drop_empty ls
keep_some [] ls h = absurd (omega arith)
keep_some (b ∷ x) ls h = refl

module _ (t : List ℕ) (i : ℕ) where
  pub names_space : i < length t → get_or t i 0 ≡ 32 → names (drop i t) ≡ names (drop (i + 1) t)
  unfolding split_at
  names_space h e = rw (rest_at t i h, e)

  pub names-end : length t ≤ i → names (drop i t) ≡ []
  unfolding split_at
  names-end h = rw (drop_of_length-le t h)

  pub name_at_lem : i < length t → (get_or t i 0 ≡ 32 → ⊥) → (e : ℕ) → RunEnd (is_not 32) t i e
      → (names (drop i t) ≡ part t i e ∷ names (drop e t)) × (i < e) × (e ≤ length t)
  name_at_lem h n e r =
      let f : is_not 32 (get_or t i 0) ≡ true = rw (ne_eqb (get_or t i 0) 32 n) in
      let g : span_at (is_not 32) t i ≡ span_at (is_not 32) t (i + 1) = place_in (is_not 32) t i h f in
      let k = span_ge (is_not 32) t (i + 1) in
      let l = span-le (is_not 32) t i (omega arith) in
      let p = r.place in
      let u : i < e = omega arith in
      let v : e ≤ length t = omega arith in
      let w : (span (is_not 32) (drop i t)).value ≡ part t i e = run_at (is_not 32) t i ∙ ap (λ (z : ℕ). take (z - i) (drop i t)) (sym p) in
      let x : (span (is_not 32) (drop i t)).rest ≡ drop e t = rest_of (is_not 32) t i ∙ ap (λ (z : ℕ). drop z t) (sym p) in
      let y : names (drop i t) ≡ part t i e ∷ names (drop e t) =
      ap drop_empty (split-first 32 (drop i t) ∙ ap (λ (z : List ℕ). z ∷ parts_behind 32 (span (is_not 32) (drop i t)).rest) w)
      ∙ keep_some (part t i e) (parts_behind 32 (span (is_not 32) (drop i t)).rest) (omega (arith, length_part t i e v))
      ∙ ap (λ (ls : List (List ℕ)). part t i e ∷ ls) (names-behind (drop i t) ∙ ap names x) in
      (y, u, v)
