-- `device_view::attribute_of` meets its contract.
use Prim.Native.Nat.{ℕ, ◌-◌, ◌<◌}
use mathlib.Core.Path.{sym, subst}
use native.Mathlib.Omega.{arith}
use Rattle.lists.specs.Bytes.{Bytes}
use Rattle.device.specs.Places.{Lies}
use Rattle.device_lookup.specs.Lookup.{Standing}
use Rattle.device_lookup.proofs.Devices.{chain_few}
use Rattle.device_lookup.proofs.Chains.{chain_lies, chain-standing}
use Rattle.device_view.proofs.Chain.{nth-place}
use Rattle.device_view.proofs.attribute_of.Goals as goal

pub start_of-requires : goal.start_of-requires
start_of-requires c =
    let ((d, e), k, from, to) = c.requires in
    (from, omega (arith, to, (k d e).len, chain_few c.args.rec.now d e))

pub attribute_at-requires : goal.attribute_at-requires
attribute_at-requires c =
    let rec = c.args.rec.now in
    let b : Bytes rec = λ i. (c.type_inv.rec i).fits in
    let ((d, e), k, from, to) = c.requires in
    let n : c.args.place - 1 < c.args.chain.len = omega (arith, from, to) in
    subst (Standing rec) (sym c.start_of.ensures) (chain-standing rec d b e c.args.chain (k d e) (c.args.place - 1) n)

pub returns : goal.returns
returns c = λ d e m g.
    let rec = c.args.rec.now in
    let b : Bytes rec = λ i. (c.type_inv.rec i).fits in
    let h = chain_lies rec d b e c.args.chain (c.requires.1 d e) (c.args.place - 1) m (nth-place d c.args.place m g) in
    c.attribute_at.ensures m (subst (λ (i : ℕ). Lies rec i m) (sym c.before.start_of.ensures) h)
