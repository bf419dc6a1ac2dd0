-- `assign_key::change_closable` meets its contract.
use Rattle.assign_key.proofs.Keys.{builtin_is}
use Rattle.assign_key.specs.Keys.{Fits}
use Rattle.outcome_fields.specs.declared.Closable.{Closable}
use Rattle.device_lookup.proofs.Devices.{chain_few}
use Rattle.device.specs.Device.{chain}
use lib.ListN.{length}
use mathlib.Core.Path.{sym, subst, ◌∙◌}
use native.Mathlib.Omega.{arith}
use Rattle.assign_key.proofs.change_closable.Goals as goal

pub assign_links-requires : goal.assign_links-requires
assign_links-requires c =
    let x = c.args in
    (c.requires.0, c.requires.1, (subst (λ (k : Closable). Fits k x.value.now) c.in-Links.is c.requires.4), c.requires.2)

pub assign_tag-requires : goal.assign_tag-requires
assign_tag-requires c =
    let x = c.args in
    let (d, s, h) = c.requires.0 in ((length (chain d), s, h.held), c.requires.2, (subst (λ (k : Closable). Fits k x.value.now) c.in-Tags.is c.requires.4))

pub assign_run-requires : goal.assign_run-requires
assign_run-requires c =
    let x = c.args in
    let (d, s, h) = c.requires.0 in let w = h.chained.len in let z = c.requires.1 in (
      (length (chain d), s, h.held, omega arith),
      omega (
        arith,
        chain_few
            x.dev.now d h.device,
      ),
      c.requires.2,
      c.requires.3,
      (subst (λ (k : Closable). Fits k x.value.now) c.in-Runs.is c.requires.4),
    )

pub assign_single-requires : goal.assign_single-requires
assign_single-requires c =
    let x = c.args in
    (c.requires.0, c.requires.1, (subst (λ (k : Closable). Fits k x.value.now) c.in-Owner.is c.requires.4))

pub assign_single-requires-in-Group : goal.assign_single-requires-in-Group
assign_single-requires-in-Group c =
    let x = c.args in
    (c.requires.0, c.requires.1, (subst (λ (k : Closable). Fits k x.value.now) c.in-Group.is c.requires.4))

pub assign_single-requires-in-Mode : goal.assign_single-requires-in-Mode
assign_single-requires-in-Mode c =
    let x = c.args in
    (c.requires.0, c.requires.1, (subst (λ (k : Closable). Fits k x.value.now) c.in-Mode.is c.requires.4))

pub returns-in-Links : goal.returns-in-Links
returns-in-Links c = rw c.in-Links.is (λ p i d s h. c.assign_links.ensures p i.op i.value d s h)

pub returns-in-Tags : goal.returns-in-Tags
returns-in-Tags c = rw c.in-Tags.is (λ p i d s h. c.assign_tag.ensures p i.op i.value (length (chain d)) s h.held)

pub returns-in-Runs : goal.returns-in-Runs
returns-in-Runs c =
    let x = c.args in
    rw c.in-Runs.is
    (λ p i d s h. let w = h.chained.len in let z = c.requires.1 in c.assign_run.ensures p i.op i.value
    (builtin_is p x.argument.now i.argument ∙ sym c.is_builtin.ensures) (length (chain d)) s h.held (omega arith))

pub returns-in-Owner : goal.returns-in-Owner
returns-in-Owner c = rw c.in-Owner.is (λ p i d s h. c.assign_single.ensures p i.op i.value d s h)

pub returns-in-Group : goal.returns-in-Group
returns-in-Group c = rw c.in-Group.is (λ p i d s h. c.assign_single-in-Group.ensures p i.op i.value d s h)

pub returns-in-Mode : goal.returns-in-Mode
returns-in-Mode c = rw c.in-Mode.is (λ p i d s h. c.assign_single-in-Mode.ensures p i.op i.value d s h)
