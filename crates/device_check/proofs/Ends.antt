-- A row in which no key stands twice, by where a check says that it ends.
-- Assumes nothing.
use Prim.Native.Nat.{ℕ, ◌-◌}
use mathlib.Core.Path.{◌≡◌, refl, sym, ap, ◌∙◌}
use mathlib.Core.Bool.{Bool, true, false}
use mathlib.Core.List.{List}
use lib.ListN.{length, drop}
use Rattle.lists.specs.Lists.{pick}
use Rattle.lists.specs.Bytes.{distinct}
use Rattle.entries.specs.Parse.{Parse, got, bad, keep, many}
use Rattle.entries.specs.Entry.{Property, one_prop}
use Rattle.rows.specs.Row.{Row, names, end_of}
use Rattle.rows.specs.declared.Kind.TheVariants as kind
use Rattle.std.specs.Prelude.{Some, None}
use Rattle.rows.proofs.Readers.{property-reads, many-row, many-names, end_at, end-bad}
use Rattle.device_check.specs.Stages.{apart}

module _ (l : List ℕ) (at n : ℕ) where
  abbrev row : Parse (List Property)
  row = many one_prop n (drop at l)

  pub row-bad : end_of (length l) row ≡ None → end_of (length l) (apart row) ≡ None
  row-bad e = rw (end-bad (length l) row e)

  -- its entries stand there
  pub row_stands : (p : ℕ) → end_of (length l) row ≡ Some p → Row kind.Property n (drop at l)
  row_stands p e = end_at (length l) p row e λ ps r q h. many-row property-reads n (drop at l) ps r q

  -- what the names say
  pub row_apart : (p : ℕ) (t : Bool) → end_of (length l) row ≡ Some p → distinct (names kind.Property n (drop at l)) ≡ t → end_of (length l) (apart row) ≡ pick t (Some p) None
  row_apart p t e d =
      end_at (length l) p row e λ ps r q h.
      rw (q, sym (ap distinct (many-names property-reads (λ (x : Property). x.key) (λ bs. refl) n (drop at l) ps r q)) ∙ d) (by ps t r h)
    where
      by : (ps : List Property) (t : Bool) (r : List ℕ) → p ≡ length l - length r → end_of (length l) (keep t ps r) ≡ pick t (Some p) None
      by ps true r h = ap Some (sym h)
      by ps false r h = refl
