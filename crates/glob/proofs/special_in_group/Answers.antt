-- `glob::special_in_group` meets its contract.
use Prim.Native.Nat.{◌+◌}
use mathlib.Core.Path.{refl}
use Rattle.glob.proofs.Plain.{no_special, special_met, group_special}
use Rattle.glob.proofs.special_in_group.Goals as goal

pub returns-then-star : goal.returns-then-star
returns-then-star c =
    let args = c.args in
    let star = c.in_group-star in
    group_special 42 refl args.pattern.now args.at (args.at + args.n) c.requires (star.ensures.1 c.if-star.true)

pub returns-then-one : goal.returns-then-one
returns-then-one c =
    let args = c.args in
    let one = c.in_group-one in
    group_special 63 refl args.pattern.now args.at (args.at + args.n) c.requires (one.ensures.1 c.if-one.true)

pub returns-then-set : goal.returns-then-set
returns-then-set c =
    let args = c.args in
    let set = c.in_group-set in
    group_special 91 refl args.pattern.now args.at (args.at + args.n) c.requires (set.ensures.1 c.if-set.true)

pub returns : goal.returns
returns c =
    let args = c.args in
    let s = args.pattern.now in
    let end = args.at + args.n in
    let star = c.in_group-star in
    let one = c.in_group-one in
    let set = c.in_group-set in
    let bar = c.in_group-bar in
    record {
      none = λ e. no_special s args.at end (star.ensures.0 c.if-star.false) (one.ensures.0 c.if-one.false) (set.ensures.0 c.if-set.false) (bar.ensures.0 e);
      some = λ e. special_met 124 refl s args.at end c.requires (bar.ensures.1 e);
    }
