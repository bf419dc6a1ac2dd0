-- `row_edits::replace_value` meets its contract.
use Rattle.row_edits.proofs.Writes.{lent}
use Rattle.entries.specs.Entry.{prop_fields}
use Rattle.splice.specs.Moves.{stored}
use Rattle.bits.proofs.Fields.{length-packed}
use Rattle.bits.specs.Fields.{packed}
use lib.ListN.{length, take, drop}
use mathlib.Core.List.{List, ◌++◌}
use mathlib.Core.Path.{refl, ap, ◌∙◌}
use Prim.Native.Nat.{ℕ, ◌+◌, ◌-◌}
use Rattle.row_edits.proofs.replace_value.Goals as goal

pub returns : goal.returns
returns c =
    let x = c.args in
    let a = x in
    let k = c.write_property_head in record {
      bytes = ap (λ (y : List ℕ). take a.at
          c.replace.new.t ++ (y ++ drop (a.at + 2 - a.at)
          (drop a.at c.replace.new.t))) k.ensures ∙ lent a.at
          c.replace.new.t (packed (prop_fields a.key (length a.value.now)))
          (length-packed (prop_fields a.key (length a.value.now)) 2 refl) ∙ ap (λ (y : List ℕ). stored y a.at
          (packed (prop_fields a.key (length a.value.now)))) c.replace.ensures;
      layout = c.moved.ensures;
    }
