-- `outcome_readers::output_of` meets its contract.
use Prim.Native.Nat.{ℕ}
use mathlib.Core.Path.{ap, ◌∙◌}
use lib.ListN.{take, drop}
use Rattle.lists.proofs.Moves.{sized-part}
use Rattle.outcome.specs.Head.{header_size}
use Rattle.outcome_readers.proofs.output_of.Goals as goal

pub returns : goal.returns
returns c =
    let field = c.field in
    let rec = c.args.rec.now in
    sized-part rec header_size field.result ∙ ap (λ (k : ℕ). take k (drop header_size rec)) field.ensures.0
