-- `pairs::in_braces` meets its contract.
use Prim.Native.Nat.{◌+◌, ◌-◌}
use mathlib.Core.Bool.{true, false}
use mathlib.Core.Path.{◌≡◌, refl, sym, ◌∙◌}
use native.Mathlib.Omega.{arith}
use borrow.Author.Tests.{le-leb, lt-leb, not-true, not-false}
use Rattle.keys.specs.Table.{takes_of}
use Rattle.lists.specs.Bytes.{between}
use Rattle.lists.specs.Sizes.{most_key}
use Rattle.pairs.proofs.Reading.{brace_open, brace_wrong, brace_right}
use Rattle.pairs.proofs.in_braces.Goals as goal

pub returns-then-line-end : goal.returns-then-line-end
returns-then-line-end c =
    let entry = c.args in
    let byte-end = c.byte_end-end in
    let line = entry.line.now in
    let start = entry.at + 1 in
    let end = byte-end.result in
    let takes = takes_of entry.takes in
    (sym (brace_open line start end byte-end.ensures.place takes c.if-line-end.true), tt)

pub returns-then-n-lt1 : goal.returns-then-n-lt1
returns-then-n-lt1 c =
    let entry = c.args in
    let byte-end = c.byte_end-end in
    let line = entry.line.now in
    let start = entry.at + 1 in
    let end = byte-end.result in
    let takes = takes_of entry.takes in
    let outside : between 1 most_key (end - start) ≡ false = rw (lt-leb 1 (end - start) c.if-n-lt1.true) in
    (sym (brace_wrong line start end byte-end.ensures.place takes byte-end.ensures.from c.if-line-end.false outside), tt)

pub returns-then-n-gt64 : goal.returns-then-n-gt64
returns-then-n-gt64 c =
    let entry = c.args in
    let byte-end = c.byte_end-end in
    let line = entry.line.now in
    let start = entry.at + 1 in
    let end = byte-end.result in
    let takes = takes_of entry.takes in
    let outside : between 1 most_key (end - start) ≡ false = rw (le-leb 1 (end - start) c.if-n-lt1.false, lt-leb (end - start) 64 c.if-n-gt64.true) in
    (sym (brace_wrong line start end byte-end.ensures.place takes byte-end.ensures.from c.if-line-end.false outside), tt)

pub returns-then-not-type_allowed : goal.returns-then-not-type_allowed
returns-then-not-type_allowed c =
    let entry = c.args in
    let byte-end = c.byte_end-end in
    let line = entry.line.now in
    let start = entry.at + 1 in
    let end = byte-end.result in
    let takes = takes_of entry.takes in
    let type-allowed = c.type_allowed in
    let inside : between 1 most_key (end - start) ≡ true = rw (le-leb 1 (end - start) c.if-n-lt1.false, le-leb (end - start) 64 c.if-n-gt64.false) in
    let right = brace_right line start end byte-end.ensures.place takes byte-end.ensures.from c.if-line-end.false inside in
    (sym (right ∙ rw (← type-allowed.ensures, not-true type-allowed.result c.if-not-type_allowed.true-raw)), tt)

pub returns : goal.returns
returns c =
    let entry = c.args in
    let byte-end = c.byte_end-end in
    let line = entry.line.now in
    let start = entry.at + 1 in
    let end = byte-end.result in
    let takes = takes_of entry.takes in
    let type-allowed = c.type_allowed in
    let inside : between 1 most_key (end - start) ≡ true = rw (le-leb 1 (end - start) c.if-n-lt1.false, le-leb (end - start) 64 c.if-n-gt64.false) in
    let right = brace_right line start end byte-end.ensures.place takes byte-end.ensures.from c.if-line-end.false inside in
    (sym (right ∙ rw (← type-allowed.ensures, not-false type-allowed.result c.if-not-type_allowed.false-raw)), (byte-end.ensures.from, omega arith, λ h. omega arith, λ h. (omega arith, refl)))
