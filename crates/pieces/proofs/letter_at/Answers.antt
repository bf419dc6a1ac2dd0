-- `pieces::letter_at` meets its contract.
use mathlib.Core.Path.{refl, sym, ◌∙◌}
use native.Mathlib.Omega.{arith}
use Rattle.lists.specs.Quoted.{bytes}
use Rattle.lists.specs.Bytes.{starts}
use Rattle.lists.proofs.Rest.{byte_in}
use Rattle.template.specs.Template.{letters, name_in}
use Rattle.pieces.specs.declared.Piece.TheVariants.{Kernel, Number, Devpath, Id, Major, Minor}
use Rattle.pieces.proofs.Names.{behind, one_byte, letter_s, letter_E, letter_c, letter_none}
use Rattle.pieces.proofs.letter_at.Goals as goal

pub result_at-requires : goal.result_at-requires
result_at-requires c =
    let args = c.args in
    (omega (arith, byte_in args.template.now args.at 99 (sym c.byte_at.ensures ∙ c.in-99.is) (omega arith)), omega arith)

pub returns-in-107 : goal.returns-in-107
unfolding letters name_in starts bytes
returns-in-107 c =
    let args = c.args in
    one_byte args.template.now args.at letters Kernel (sym c.byte_at.ensures ∙ c.in-107.is) (omega arith) tt refl

pub returns-in-110 : goal.returns-in-110
unfolding letters name_in starts bytes
returns-in-110 c =
    let args = c.args in
    one_byte args.template.now args.at letters Number (sym c.byte_at.ensures ∙ c.in-110.is) (omega arith) tt refl

pub returns-in-112 : goal.returns-in-112
unfolding letters name_in starts bytes
returns-in-112 c =
    let args = c.args in
    one_byte args.template.now args.at letters Devpath (sym c.byte_at.ensures ∙ c.in-112.is) (omega arith) tt refl

pub returns-in-98 : goal.returns-in-98
unfolding letters name_in starts bytes
returns-in-98 c =
    let args = c.args in
    one_byte args.template.now args.at letters Id (sym c.byte_at.ensures ∙ c.in-98.is) (omega arith) tt refl

pub returns-in-115 : goal.returns-in-115
returns-in-115 c =
    let entry = c.args in
    let byte_at = c.byte_at in
    let args = entry in
    let here = sym byte_at.ensures ∙ c.in-115.is in (
      c.attr_at.ensures.0 ∙ sym (letter_s args.template.now args.at here),
      behind args.template.now args.at 1 c.attr_at.result c.attr_at.ensures.1,
    )

pub returns-in-69 : goal.returns-in-69
returns-in-69 c =
    let entry = c.args in
    let byte_at = c.byte_at in
    let args = entry in
    let here = sym byte_at.ensures ∙ c.in-69.is in (
      c.env_at.ensures.0 ∙ sym (letter_E args.template.now args.at here),
      behind args.template.now args.at 1 c.env_at.result c.env_at.ensures.1,
    )

pub returns-in-77 : goal.returns-in-77
unfolding letters name_in starts bytes
returns-in-77 c =
    let args = c.args in
    one_byte args.template.now args.at letters Major (sym c.byte_at.ensures ∙ c.in-77.is) (omega arith) tt refl

pub returns-in-109 : goal.returns-in-109
unfolding letters name_in starts bytes
returns-in-109 c =
    let args = c.args in
    one_byte args.template.now args.at letters Minor (sym c.byte_at.ensures ∙ c.in-109.is) (omega arith) tt refl

pub returns-in-99 : goal.returns-in-99
returns-in-99 c =
    let entry = c.args in
    let byte_at = c.byte_at in
    let args = entry in
    let here = sym byte_at.ensures ∙ c.in-99.is in
    (c.result_at.ensures.0 ∙ sym (letter_c args.template.now args.at here), c.result_at.ensures.1)

pub returns-in_default : goal.returns-in_default
returns-in_default c =
    let args = c.args in
    let byte = c.byte_at.ensures in
    let rest = c.in_default.in_default-own.rest in (
      letter_none args.template.now args.at byte (λ e. c.requires.1 (sym byte ∙ e)) rest.0.0.0.0.0.0.0.0.1
          rest.0.0.0.0.0.0.0.1 rest.0.0.0.0.0.0.1 rest.0.0.0.0.0.1 rest.0.0.0.0.1 rest.0.0.0.1
          rest.0.0.1 rest.0.1 rest.1,
      tt,
    )
