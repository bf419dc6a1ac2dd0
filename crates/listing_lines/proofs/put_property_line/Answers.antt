-- `listing_lines::put_property_line` meets its contract.
use Rattle.std.proofs.Common.{[], ◌∷◌, ◌++◌, ◌≡◌, ℕ, List, length, ◌+◌, Some, arith, length-append}
use Rattle.engine.specs.Listing.{escaped, line_of}
use Rattle.listing_lines.proofs.Laws.{line_size, behind, line_behind}
use Rattle.listing_lines.proofs.put_property_line.Goals as goal

size : (word key value : List ℕ) → length (line_of word (escaped key ++ (61 ∷ escaped value))) ≡ length (word ++ (32 ∷ [])) + length (escaped key) + length (escaped value) + 2
size word key value =
    omega (arith, line_size word (escaped key ++ (61 ∷ escaped value)), length-append word (32 ∷ []), length-append (escaped key) (61 ∷ escaped value))

pub returns-in_err-worded : goal.returns-in_err-worded
returns-in_err-worded c =
    rw c.from_residual.ensures (omega (arith, size c.args.word.now c.args.key.now c.args.value.now, c.in_err-worded.ensures))

pub returns-in_err-keyed : goal.returns-in_err-keyed
returns-in_err-keyed c =
    rw c.from_residual-in_err-keyed.ensures
    (omega (arith, size c.args.word.now c.args.key.now c.args.value.now, c.in_ok-worded.ensures, c.in_err-keyed.ensures))

pub returns-in_err-parted : goal.returns-in_err-parted
returns-in_err-parted c =
    rw c.from_residual-in_err-parted.ensures
    (omega (arith, size c.args.word.now c.args.key.now c.args.value.now, c.in_ok-worded.ensures, c.in_ok-keyed.ensures, c.in_err-parted.ensures))

pub returns-in_err-valued : goal.returns-in_err-valued
returns-in_err-valued c =
    rw c.from_residual-in_err-valued.ensures
    (omega (arith, size c.args.word.now c.args.key.now c.args.value.now, c.in_ok-worded.ensures, c.in_ok-keyed.ensures, c.in_ok-parted.ensures, c.in_err-valued.ensures))

pub returns : goal.returns
returns c =
    let r = Some c.in_ok-valued.valued in
    let out = c.put_escaped-2.new.out in
    let valued = behind c.in_ok-parted.ensures (escaped c.args.value.now) r out c.in_ok-valued.ensures in
    let text = behind c.in_ok-keyed.ensures (61 ∷ escaped c.args.value.now) r out valued in
    line_behind c.args.word.now c.in_ok-worded.ensures text c.put_byte-2.result c.put_byte-2.new.out c.put_byte-2.ensures
