-- `pieces::name_at` meets its contract.
use mathlib.Core.Path.{sym, ◌∙◌}
use native.Mathlib.Omega.{arith}
use lib.ListN.{drop, length-drop}
use Rattle.lists.specs.Quoted.{bytes}
use Rattle.pieces.proofs.Names.{name-inside, behind, name_k, name-n, name_i, name_de, name_d, name_ma, name_m, name_a, name_e, name_r, name-none}
use Rattle.pieces.proofs.name_at.Goals as goal

pub result_at-requires : goal.result_at-requires
unfolding bytes
result_at-requires c =
    let args = c.args in
    let named = sym c.starts_at-in-114.ensures ∙ c.if-starts_at-3.true in
    let k = name-inside (bytes "result") (drop args.at args.template.now) named in
    (omega (arith, length-drop args.at args.template.now, c.requires.0), omega arith)

pub returns-in-107 : goal.returns-in-107
unfolding bytes
returns-in-107 c =
    let entry = c.args in
    let args = entry in
    let here = sym c.byte_at.ensures ∙ c.in-107.is in
    (c.if_named.ensures.0 ∙ sym (name_k args.template.now args.at here), c.if_named.ensures.1)

pub returns-in-110 : goal.returns-in-110
unfolding bytes
returns-in-110 c =
    let entry = c.args in
    let args = entry in
    let here = sym c.byte_at.ensures ∙ c.in-110.is in
    (c.if_named-in-110.ensures.0 ∙ sym (name-n args.template.now args.at here), c.if_named-in-110.ensures.1)

pub returns-then-byte_at-eq101 : goal.returns-then-byte_at-eq101
unfolding bytes
returns-then-byte_at-eq101 c =
    let entry = c.args in
    let byte_at = c.byte_at in
    let match = c.in-100 in
    let byte-at2 = c.byte_at-in-100 in
    let if1 = c.if-byte_at-eq101 in
    let args = entry in
    let here = sym byte_at.ensures ∙ match.is in (
      c.if_named-then-byte_at-eq101.ensures.0 ∙ sym (name_de args.template.now args.at here (sym byte-at2.ensures ∙ if1.true)),
      c.if_named-then-byte_at-eq101.ensures.1,
    )

pub returns-else-byte_at-eq101 : goal.returns-else-byte_at-eq101
unfolding bytes
returns-else-byte_at-eq101 c =
    let entry = c.args in
    let byte_at = c.byte_at in
    let match = c.in-100 in
    let byte-at2 = c.byte_at-in-100 in
    let if1 = c.if-byte_at-eq101 in
    let args = entry in
    let here = sym byte_at.ensures ∙ match.is in (
      c.if_named-else-byte_at-eq101.ensures.0 ∙ sym (name_d args.template.now args.at here (λ e. if1.false (byte-at2.ensures ∙ e))),
      c.if_named-else-byte_at-eq101.ensures.1,
    )

pub returns-in-105 : goal.returns-in-105
unfolding bytes
returns-in-105 c =
    let entry = c.args in
    let args = entry in
    let here = sym c.byte_at.ensures ∙ c.in-105.is in
    (c.if_named-in-105.ensures.0 ∙ sym (name_i args.template.now args.at here), c.if_named-in-105.ensures.1)

pub returns-then-starts_at : goal.returns-then-starts_at
unfolding bytes
returns-then-starts_at c =
    let entry = c.args in
    let byte_at = c.byte_at in
    let match = c.in-97 in
    let starts-at = c.starts_at in
    let args = entry in
    let here = sym byte_at.ensures ∙ match.is in
    let named = sym starts-at.ensures ∙ c.if-starts_at.true in (
      c.attr_at.ensures.0 ∙ sym (name_a args.template.now args.at here ∙ rw named),
      behind args.template.now args.at 4 c.attr_at.result c.attr_at.ensures.1,
    )

pub returns-else-starts_at : goal.returns-else-starts_at
unfolding bytes
returns-else-starts_at c =
    let entry = c.args in
    let byte_at = c.byte_at in
    let args = entry in
    let here = sym byte_at.ensures ∙ c.in-97.is in
    let named = sym c.starts_at.ensures ∙ c.if-starts_at.false in
    (sym (name_a args.template.now args.at here ∙ rw named), tt)

pub returns-then-starts_at-2 : goal.returns-then-starts_at-2
unfolding bytes
returns-then-starts_at-2 c =
    let entry = c.args in
    let byte_at = c.byte_at in
    let match = c.in-101 in
    let starts-at2 = c.starts_at-in-101 in
    let args = entry in
    let here = sym byte_at.ensures ∙ match.is in
    let named = sym starts-at2.ensures ∙ c.if-starts_at-2.true in (
      c.env_at.ensures.0 ∙ sym (name_e args.template.now args.at here ∙ rw named),
      behind args.template.now args.at 3 c.env_at.result c.env_at.ensures.1,
    )

pub returns-else-starts_at-2 : goal.returns-else-starts_at-2
unfolding bytes
returns-else-starts_at-2 c =
    let entry = c.args in
    let byte_at = c.byte_at in
    let args = entry in
    let here = sym byte_at.ensures ∙ c.in-101.is in
    let named = sym c.starts_at-in-101.ensures ∙ c.if-starts_at-2.false in
    (sym (name_e args.template.now args.at here ∙ rw named), tt)

pub returns-then-byte_at-eq97 : goal.returns-then-byte_at-eq97
unfolding bytes
returns-then-byte_at-eq97 c =
    let entry = c.args in
    let byte_at = c.byte_at in
    let match = c.in-109 in
    let byte-at3 = c.byte_at-in-109 in
    let if4 = c.if-byte_at-eq97 in
    let args = entry in
    let here = sym byte_at.ensures ∙ match.is in (
      c.if_named-then-byte_at-eq97.ensures.0 ∙ sym (name_ma args.template.now args.at here (sym byte-at3.ensures ∙ if4.true)),
      c.if_named-then-byte_at-eq97.ensures.1,
    )

pub returns-else-byte_at-eq97 : goal.returns-else-byte_at-eq97
unfolding bytes
returns-else-byte_at-eq97 c =
    let entry = c.args in
    let byte_at = c.byte_at in
    let match = c.in-109 in
    let byte-at3 = c.byte_at-in-109 in
    let if4 = c.if-byte_at-eq97 in
    let args = entry in
    let here = sym byte_at.ensures ∙ match.is in (
      c.if_named-else-byte_at-eq97.ensures.0 ∙ sym (name_m args.template.now args.at here (λ e. if4.false (byte-at3.ensures ∙ e))),
      c.if_named-else-byte_at-eq97.ensures.1,
    )

pub returns-then-starts_at-3 : goal.returns-then-starts_at-3
unfolding bytes
returns-then-starts_at-3 c =
    let entry = c.args in
    let byte_at = c.byte_at in
    let match = c.in-114 in
    let starts-at3 = c.starts_at-in-114 in
    let args = entry in
    let here = sym byte_at.ensures ∙ match.is in
    let named = sym starts-at3.ensures ∙ c.if-starts_at-3.true in
    (c.result_at.ensures.0 ∙ sym (name_r args.template.now args.at here ∙ rw named), c.result_at.ensures.1)

pub returns-else-starts_at-3 : goal.returns-else-starts_at-3
unfolding bytes
returns-else-starts_at-3 c =
    let entry = c.args in
    let byte_at = c.byte_at in
    let args = entry in
    let here = sym byte_at.ensures ∙ c.in-114.is in
    let named = sym c.starts_at-in-114.ensures ∙ c.if-starts_at-3.false in
    (sym (name_r args.template.now args.at here ∙ rw named), tt)

pub returns-in_default : goal.returns-in_default
returns-in_default c =
    let args = c.args in
    let byte = c.byte_at.ensures in
    let rest = c.in_default.in_default-own.rest in (
      name-none args.template.now args.at byte (λ e. c.requires.1 (sym byte ∙ e)) rest.0.0.0.0.0.0.0.1
          rest.0.0.0.0.0.0.1 rest.0.0.0.0.0.1 rest.0.0.0.0.1 rest.0.0.0.1 rest.0.0.1 rest.0.1 rest.1,
      tt,
    )
