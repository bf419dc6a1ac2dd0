-- `run_files::run_files` meets its contract.
use Prim.Native.Nat.{◌≤◌}
use mathlib.Core.Path.{◌≡◌, sym, ◌∙◌}
use Rattle.std.specs.Prelude.{None}
use lib.ListN.{length}
use Rattle.files.specs.Files.{decode_files}
use Rattle.file_rows.specs.Places.{FilesIn}
use Rattle.run_files.proofs.Answers.{gives-short, gives_none, gives-twice}
use native.Mathlib.Omega.{arith}
use Rattle.run_files.proofs.run_files.Goals as goal

pub returns-then-t-lt-FULLEST : goal.returns-then-t-lt-FULLEST
returns-then-t-lt-FULLEST c =
    c.refuse.ensures ∙ sym (gives-short c.args.set.now c.args.dev.now c.args.rec.now c.args.sheet.now (length c.args.t.now) (omega (arith, c.if-t-lt-FULLEST.true)))

pub returns-in_default : goal.returns-in_default
returns-in_default c =
    let none-there : decode_files c.args.set.now ≡ None = c.in_default.ensures in
    c.refuse-in_default.ensures ∙ sym (gives_none c.args.set.now c.args.dev.now c.args.rec.now c.args.sheet.now (length c.args.t.now) (omega (arith, c.if-t-lt-FULLEST.false)) none-there)

pub doubled-requires : goal.doubled-requires
doubled-requires c =
    let there : FilesIn c.args.set.now c.find_files.new.starts c.in-Some.n = c.in-Some.ensures in
    let room : c.in-Some.n ≤ length c.find_files.new.starts = omega (arith, there.few, c.find_files.auto.starts) in
    record { room = room; stand = there.stand }

pub returns-then-doubled : goal.returns-then-doubled
returns-then-doubled c =
    let there : FilesIn c.args.set.now c.find_files.new.starts c.in-Some.n = c.in-Some.ensures in
    c.refuse-then-doubled.ensures
    ∙ sym (gives-twice c.args.set.now c.args.dev.now c.args.rec.now c.args.sheet.now (length c.args.t.now) (omega (arith, c.if-t-lt-FULLEST.false)) _ there.files (sym c.doubled.ensures ∙ c.if-doubled.true))

pub winners-count-requires : goal.winners-count-requires
winners-count-requires c =
    let there : FilesIn c.args.set.now c.find_files.new.starts c.in-Some.n = c.in-Some.ensures in
    let room : c.in-Some.n ≤ length c.find_files.new.starts = omega (arith, there.few, c.find_files.auto.starts) in
    (record { room = room; stand = there.stand }, omega (arith, there.few), omega (arith, there.few))

pub run_winners-requires : goal.run_winners-requires
run_winners-requires c =
    let there : FilesIn c.args.set.now c.find_files.new.starts c.in-Some.n = c.in-Some.ensures in
    let room : c.in-Some.n ≤ length c.find_files.new.starts = omega (arith, there.few, c.find_files.auto.starts) in
    (record { room = room; files = there; once = sym c.doubled.ensures ∙ c.if-doubled.false; winners = c.winners-count.ensures }, omega (arith, c.if-t-lt-FULLEST.false))
