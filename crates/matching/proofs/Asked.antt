-- Whether a rule has a PROGRAM or RESULT: a turn of the loop over its rows, and what is known behind it.
-- Assumes nothing.
use Prim.Native.Nat.{ℕ, ◌+◌, ◌-◌, ◌≤◌, ◌<◌}
use mathlib.Core.Path.{◌≡◌, refl, sym, ap, ◌∙◌}
use mathlib.Core.Bool.{Bool, true, false, ◌||◌, or-false, or_assoc}
use mathlib.Core.List.{List, [], ◌∷◌}
use Rattle.lists.specs.Lists.{any}
use Rattle.rules.specs.Pair.{Rule}
use Rattle.keys.specs.Table.{key_of}
use Rattle.table.specs.Table.{entry_of, pairs_from, Got}
use Rattle.table.specs.declared.Entry.{Entry}
use Rattle.table.proofs.Pairs.{pairs_end, rows-here}
use Rattle.matching.specs.Answers.{is_asked, asks_in}

module _ (v r : List ℕ) (n : ℕ) (ps : Rule) where
  -- one of the rows before the i-th has one, or the rule has one where those from there on have
  abbrev pub AsksFrom : ℕ → Bool → Type 0
  AsksFrom i asks = asks_in ps ≡ (asks || asks_in (pairs_from v r i (n - i)))

  pub asks-next : (i : ℕ) (e : Entry) → Got r i e → i < n → (asks : Bool) → AsksFrom i asks → AsksFrom (i + 1) (asks || is_asked (key_of e.key))
  unfolding asks_in
  asks-next i e got h asks w =
      w ∙ ap (λ (qs : Rule). asks || any (λ p. is_asked p.key) qs) (rows-here v r i n e got h) ∙ sym (or_assoc asks (is_asked (key_of e.key)) (asks_in (pairs_from v r (i + 1) (n - (i + 1)))))

  pub asks-end : (i : ℕ) → n ≤ i → (asks : Bool) → AsksFrom i asks → asks ≡ asks_in ps
  unfolding asks_in
  asks-end i h asks w = sym (w ∙ ap (λ (qs : Rule). asks || any (λ p. is_asked p.key) qs) (pairs_end v r i n h) ∙ or-false asks)
