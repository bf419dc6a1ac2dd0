-- `rule_writing::needs_code` meets its contract.
use native.Mathlib.Omega.{arith}
use Rattle.rule_writing.proofs.Parts.{code_newline, code-none, code_last}
use Rattle.rule_writing.proofs.needs_code.Goals as goal

pub returns-then-line_end-value : goal.returns-then-line_end-value
returns-then-line_end-value c = code_newline c.args.value.now c.line_end.result c.line_end.ensures.place c.if-line_end-value.true

pub returns-then-n-eq0 : goal.returns-then-n-eq0
returns-then-n-eq0 c = code-none c.args.value.now c.line_end.result c.line_end.ensures.place c.if-n-eq0.true

pub returns : goal.returns
returns c = code_last c.args.value.now c.line_end.result c.line_end.ensures.place (omega arith) (omega arith)
