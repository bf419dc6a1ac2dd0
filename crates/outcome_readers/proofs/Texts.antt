-- Links and tags of a target as a row of texts.
-- Assumes nothing.
use Prim.Native.Nat.{ℕ, ◌≤◌}
use mathlib.Core.Path.{◌≡◌, subst}
use mathlib.Core.List.{List}
use lib.ListN.{length, drop}
use Rattle.rows.specs.Row.{Row, names}
use Rattle.rows.specs.declared.Kind.TheVariants as kind
use Rattle.outcome.specs.State.{State}
use Rattle.outcome_target.specs.Texts.{section_of, texts_in}
use Rattle.outcome_target.specs.declared.Section.{Section}
use Rattle.outcome_target.specs.declared.Texts.{Texts}
use Rattle.outcome_target.specs.declared.Texts.TheVariants.{Links, Tags}
use Rattle.outcome_readers.specs.Readers.{Stands}
use Rattle.outcome_readers.specs.declared.RowPlace.{RowPlace}

pub record TextRow (list : Texts) (l : List ℕ) (s : State) (r : RowPlace) : Type 0 where
  pub within : r.at ≤ length l
  pub row : Row kind.Text r.count (drop r.at l)
  pub named : names kind.Text r.count (drop r.at l) ≡ texts_in list s

of_list : (list : Texts) (n : ℕ) (l : List ℕ) (s : State) (r : RowPlace) → Stands (section_of list) n l s r → TextRow list l s r
of_list Links n l s r w = record { within = w.within; row = w.row; named = w.named }
of_list Tags n l s r w = record { within = w.within; row = w.row; named = w.named }

pub text-row : (list : Texts) (section : Section) → section ≡ section_of list → (n : ℕ) (l : List ℕ) (s : State) (r : RowPlace) → Stands section n l s r → TextRow list l s r
text-row list section e n l s r w = of_list list n l s r (subst (λ (x : Section). Stands x n l s r) e w)
