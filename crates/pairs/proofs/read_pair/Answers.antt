-- `pairs::read_pair` meets its contract.
use Prim.Native.Nat.{ℕ, ◌+◌}
use mathlib.Core.Path.{sym, ap, ◌∙◌}
use mathlib.Core.List.{List}
use native.Mathlib.Omega.{arith}
use Rattle.std.proofs.lemmas.Result.{err_from_is_err_and}
use lib.ListN.{drop}
use Rattle.lists.specs.Bytes.{part}
use Rattle.lists.specs.Checked.{ok}
use Rattle.lists.specs.Runs.{Part}
use Rattle.rules.specs.Key as rules
use Rattle.rules.specs.Pair as pair
use Rattle.keys.specs.Table.{operator_of, row_of}
use Rattle.refusals.specs.Refusals.{refusal_of}
use Rattle.pairs.specs.Answers.{unescaped}
use Rattle.pairs.proofs.Reading.{unblank_at}
use Rattle.pairs.proofs.Steps.{key-none, key-some, argument-refused, argument-ok, operator-refused, operator-ok, value-refused, value-ok}
use Rattle.pairs.proofs.read_pair.Goals as goal

pub slice_bounds-find_key-count : goal.slice_bounds-find_key-count
slice_bounds-find_key-count c = c.upper_end-end.ensures.from

pub slice_bounds-find_key-start : goal.slice_bounds-find_key-start
slice_bounds-find_key-start c = c.upper_end-end.ensures.from

pub slice_bounds-find_key-end : goal.slice_bounds-find_key-end
slice_bounds-find_key-end c = omega (arith, c.upper_end-end.ensures.within, c.blank_end-start.ensures.within)

pub read_operator-requires : goal.read_operator-requires
read_operator-requires c = omega (arith, c.blank_end-before.ensures.within, c.in_ok-argument.ensures.1.2 (omega (arith, c.upper_end-end.ensures.within, c.blank_end-start.ensures.within)))

pub overflow_add-rest : goal.overflow_add-rest
overflow_add-rest c = omega (arith, c.blank_end-before.ensures.within, c.in_ok-argument.ensures.1.2 (omega (arith, c.upper_end-end.ensures.within, c.blank_end-start.ensures.within)), c.in_ok-read.ensures.1)

pub overflow_add-last : goal.overflow_add-last
overflow_add-last c = omega (arith, c.in_ok-value.ensures.1.written.within)

pub returns-in_default : goal.returns-in_default
returns-in_default c =
    (key-none c.args.line.now c.args.at c.blank_end-start.result c.upper_end-end.result c.blank_end-start.ensures.place c.upper_end-end.ensures.place c.in_default.ensures, tt)

pub returns-in_err-argument : goal.returns-in_err-argument
unfolding row_of
returns-in_err-argument c =
    let s = c.args.line.now in
    let r = row_of c.in-Some.row in
    let e = c.upper_end-end.result in
    let p = err_from_is_err_and c.from_residual.result c.from_residual.ensures.1 in
    rw (p.1, p.2) (
      argument-refused r (drop e s) (refusal_of c.in_err-argument.field-0.0) c.in_err-argument.ensures.0
          ∙ sym (key-some s c.args.at c.blank_end-start.result e c.blank_end-start.ensures.place c.upper_end-end.ensures.place r c.in-Some.ensures),
      tt,
    )

pub returns-in_err-read : goal.returns-in_err-read
unfolding row_of
returns-in_err-read c =
    let s = c.args.line.now in
    let r = row_of c.in-Some.row in
    let e = c.upper_end-end.result in
    let a = c.in_ok-argument.argument in
    let g : Part (List ℕ) = record { value = part s a.start a.end; rest = drop a.next s } in
    let p = err_from_is_err_and c.from_residual-in_err-read.result c.from_residual-in_err-read.ensures.1 in
    rw (p.1, p.2) (
      operator-refused s a.next c.blank_end-before.result c.blank_end-before.ensures.place r.key g.value r.allowed (refusal_of c.in_err-read.field-0.0) c.in_err-read.ensures.0
          ∙ sym (argument-ok r (drop e s) g c.in_ok-argument.ensures.0)
          ∙ sym (key-some s c.args.at c.blank_end-start.result e c.blank_end-start.ensures.place c.upper_end-end.ensures.place r c.in-Some.ensures),
      tt,
    )

pub returns-in_err-value : goal.returns-in_err-value
unfolding row_of
returns-in_err-value c =
    let s = c.args.line.now in
    let r = row_of c.in-Some.row in
    let e = c.upper_end-end.result in
    let a = c.in_ok-argument.argument in
    let g : Part (List ℕ) = record { value = part s a.start a.end; rest = drop a.next s } in
    let w = c.in_ok-read.read in
    let b = c.blank_end-before.result in
    let o : Part rules.Op = record { value = operator_of w.operator; rest = drop (b + w.width) s } in
    let p = err_from_is_err_and c.from_residual-in_err-value.result c.from_residual-in_err-value.ensures.1 in
    rw (p.1, p.2) (
      value-refused s (b + w.width) c.blank_end-behind.result c.blank_end-behind.ensures.place r.key g.value o.value (refusal_of c.in_err-value.field-0.0) c.in_err-value.ensures.0
          ∙ sym (operator-ok s a.next b c.blank_end-before.ensures.place r.key g.value r.allowed o c.in_ok-read.ensures.0)
          ∙ sym (argument-ok r (drop e s) g c.in_ok-argument.ensures.0)
          ∙ sym (key-some s c.args.at c.blank_end-start.result e c.blank_end-start.ensures.place c.upper_end-end.ensures.place r c.in-Some.ensures),
      tt,
    )

pub returns : goal.returns
unfolding row_of
returns c =
    let s = c.args.line.now in
    let r = row_of c.in-Some.row in
    let e = c.upper_end-end.result in
    let a = c.in_ok-argument.argument in
    let g : Part (List ℕ) = record { value = part s a.start a.end; rest = drop a.next s } in
    let w = c.in_ok-read.read in
    let b = c.blank_end-before.result in
    let o : Part rules.Op = record { value = operator_of w.operator; rest = drop (b + w.width) s } in
    let x = c.in_ok-value.value in
    let v : Part (List ℕ) = record { value = unescaped x.coded (part s x.start x.end); rest = drop (x.end + 1) s } in
    let n = c.blank_end-next.result in
    let made : pair.Pair = record { key = r.key; argument = g.value; op = o.value; value = v.value } in
    let within = c.in_ok-value.ensures.1.written.within in (
      ap (λ (l : List ℕ). ok (record { value = made; rest = l })) (sym (unblank_at s (x.end + 1) n c.blank_end-next.ensures.place))
          ∙ sym (value-ok s (b + w.width) c.blank_end-behind.result c.blank_end-behind.ensures.place r.key g.value o.value v c.in_ok-value.ensures.0)
          ∙ sym (operator-ok s a.next b c.blank_end-before.ensures.place r.key g.value r.allowed o c.in_ok-read.ensures.0)
          ∙ sym (argument-ok r (drop e s) g c.in_ok-argument.ensures.0)
          ∙ sym (key-some s c.args.at c.blank_end-start.result e c.blank_end-start.ensures.place c.upper_end-end.ensures.place r c.in-Some.ensures),
      record {
        argument = c.in_ok-argument.ensures.1.0;
        argument_in = c.in_ok-argument.ensures.1.1;
        value = c.in_ok-value.ensures.1;
        behind = omega (arith, c.blank_end-next.ensures.from);
        next_in = omega (arith, c.blank_end-next.ensures.within, within);
      },
    )
