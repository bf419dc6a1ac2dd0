-- `strike::strike` meets its contract.
use Rattle.strike.proofs.Laws.{strike_short, strike_few, strike-long}
use lib.ListN.{length}
use mathlib.Core.Path.{◌∙◌}
use Rattle.strike.proofs.strike.Goals as goal

pub returns-then-target-lt32768 : goal.returns-then-target-lt32768
returns-then-target-lt32768 c =
    let a = c.args in
    c.refuse.ensures ∙ strike_short a.text.now (length a.target.now) (length a.list.now) c.if-target-lt32768.true

pub returns-then-list-lt32768 : goal.returns-then-list-lt32768
returns-then-list-lt32768 c =
    let a = c.args in
    c.refuse-then-list-lt32768.ensures ∙ strike_few a.text.now (length a.target.now) (length a.list.now) c.if-target-lt32768.false c.if-list-lt32768.true

pub returns-then-text-gt32768 : goal.returns-then-text-gt32768
returns-then-text-gt32768 c =
    let a = c.args in
    c.refuse-then-text-gt32768.ensures ∙ strike-long a.text.now (length a.target.now) (length a.list.now) c.if-target-lt32768.false c.if-list-lt32768.false c.if-text-gt32768.true
