-- `rows::check_properties` meets its contract.
-- Assumes nothing.
use Rattle.std.proofs.Common.{refl, ◌∙◌}
use Rattle.entries.specs.Entry.{ok_prop}
use Rattle.rows.proofs.Readers.{property-reads, passed_read}
use Rattle.rows.proofs.check_properties.Goals as goal

pub returns : goal.returns
returns c =
    let a = c.args in
    c.check_entries.ensures ∙ passed_read property-reads (λ head key value. ok_prop (record { key = key; value = value })) (λ bs. refl) a.rec.now a.n a.at c.requires
