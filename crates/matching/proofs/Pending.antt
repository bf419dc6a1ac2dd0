-- The first parent key of a rule: a turn of the loop over its rows, and what is known behind it.
-- Assumes nothing.
use Prim.Native.Nat.{ℕ, ◌+◌, ◌-◌, ◌≤◌, ◌<◌}
use mathlib.Core.Path.{◌≡◌, refl, sym, ap, ◌∙◌}
use mathlib.Core.Bool.{Bool, true, false, ◌||◌}
use mathlib.Core.List.{List, [], ◌∷◌}
use Rattle.std.specs.Prelude.{Option, None, Some}
use Rattle.rules.specs.Pair.{Pair}
use Rattle.keys.specs.Table.{key_of}
use Rattle.table.specs.Table.{entry_of, pairs_from, Got}
use Rattle.table.specs.declared.Entry.{Entry}
use Rattle.table.proofs.Pairs.{pairs_end, rows-here}
use Rattle.device.specs.Device.{Member}
use Rattle.engine.specs.Match.{is_parent, has_parents, parents_hold}
use Rattle.matching.specs.Answers.{first_of}
use Rattle.matching.proofs.Keys.{other_key}

-- no parent key stands before these pairs: what is asked of all is asked of them
pub record Rest (ps qs : List Pair) : Type 0 where
  pub has : has_parents ps ≡ has_parents qs
  pub hold : (m : Member) → parents_hold m ps ≡ parents_hold m qs

module _ (v r : List ℕ) (n : ℕ) (ps : List Pair) where
  abbrev rows : ℕ → List Pair
  rows j = pairs_from v r j (n - j)

  -- of the rows before the i-th: the first with a parent key, or none
  abbrev pub Noted : ℕ → Option ℕ → Type 0
  Noted i None = Rest ps (rows i)
  Noted i (Some k) = (k < n) × (has_parents ps ≡ true) × Rest ps (rows k)

  -- all rows are gone through, and none has a parent key
  pub noted-none : (i : ℕ) → n ≤ i → Noted i None → has_parents ps ≡ false
  unfolding has_parents
  noted-none i h w = w.has ∙ rw (pairs_end v r i n h)

  module _ (i : ℕ) (e : Entry) (got : Got r i e) (h : i < n) where
    -- the pair at hand has a parent key
    asked : is_parent (key_of e.key) ≡ true → Rest ps (rows i) → has_parents ps ≡ true
    unfolding has_parents
    asked t w = w.has ∙ rw (rows-here v r i n e got h, t)

    -- it has none
    other_next : is_parent (key_of e.key) ≡ false → Rest ps (rows i) → Rest ps (rows (i + 1))
    unfolding has_parents parents_hold
    other_next t w = record {
      has = w.has ∙ rw (rows-here v r i n e got h, t);
      hold = λ m. w.hold m ∙ rw (rows-here v r i n e got h, other_key (key_of e.key) m (entry_of v e) t);
    }

    pub noted-next : (first : Option ℕ) (b : Bool) → is_parent (key_of e.key) ≡ b → Noted i first → Noted (i + 1) (first_of first b i)
    noted-next (Some k) b t w = w
    noted-next None false t w = other_next t w
    noted-next None true t w = (h, asked t w, w)

pub noted-start : (v r : List ℕ) (i n : ℕ) → Noted v r n (pairs_from v r i (n - i)) i None
noted-start v r i n = record { has = refl; hold = λ m. refl }
