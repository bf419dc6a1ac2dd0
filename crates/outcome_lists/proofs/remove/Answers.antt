-- `outcome_lists::remove` meets its contract.
use mathlib.Core.Path.{sym, ap, ◌∙◌, subst}
use lib.ListN.{length}
use Rattle.rows.proofs.Search.{text-written}
use Rattle.std.specs.Prelude.{Ok}
use Rattle.rows.specs.Row.{Within}
use Rattle.outcome_target.specs.Held.{Held}
use Rattle.outcome_target.specs.Texts.{ok_of, with_texts}
use Rattle.outcome_readers.proofs.Rows.{texts_at, texts_read}
use Rattle.outcome_lists.proofs.Found.{found-cuts, found-more, found-held, missing_kept}
use Rattle.outcome_lists.proofs.Texts.{texts-same, texts-sound, text-apart, text_less}
use native.Mathlib.Omega.{arith}
use Rattle.outcome_lists.proofs.remove.Goals as goal

pub find-requires : goal.find-requires
find-requires c =
    let entry = c in
    let x = entry.args in
    let a = x in
    let sec = c.section_of-section in
    let st = c.start_of-at in
    let k = c.count_of-n in
    let h = texts_read a.list sec.result sec.ensures entry.requires.0 a.t.now a.layout entry.requires.1 entry.requires.2 st.result k.result st.ensures k.ensures.0 in (h.within, h.row)

pub overflow_add-found : goal.overflow_add-found
overflow_add-found c =
    let x = c.args in
    let u = c.find.ensures.1 in
    let q : Within (Ok c.in-Ok.found) (length x.t.now) = rw c.in-Ok.is at u in omega arith

pub overflow_sub-found : goal.overflow_sub-found
overflow_sub-found c =
    let entry = c in
    let a = c.args in
    let sec = c.section_of-section in
    let st = c.start_of-at in
    let k = c.count_of-n in
    let f = c.in-Ok.found in
    let h = found-cuts (texts_at a.list sec.result sec.ensures) (text-written (ok_of a.list)) entry.requires.0 a.t.now a.layout entry.requires.1
    entry.requires.2 (texts-sound a.list entry.requires.0 entry.requires.1 entry.requires.2.good).each
    (text-apart a.list sec.result sec.ensures entry.requires.0 a.t.now a.layout entry.requires.1 entry.requires.2 a.x.now) a.x.now st.result
    k.result st.ensures k.ensures.0 f (sym c.find.ensures.0 ∙ c.in-Ok.is) in omega (arith, h.over)

pub overflow_sub-n : goal.overflow_sub-n
overflow_sub-n c =
    let entry = c in
    let a = c.args in
    let sec = c.section_of-section in
    let st = c.start_of-at in
    let k = c.count_of-n in
    let f = c.in-Ok.found in
    let h = found-more (texts_at a.list sec.result sec.ensures) (text-written (ok_of a.list)) entry.requires.0 a.t.now a.layout entry.requires.1
    entry.requires.2 (texts-sound a.list entry.requires.0 entry.requires.1 entry.requires.2.good).each
    (text-apart a.list sec.result sec.ensures entry.requires.0 a.t.now a.layout entry.requires.1 entry.requires.2 a.x.now) a.x.now st.result
    k.result st.ensures k.ensures.0 f (sym c.find.ensures.0 ∙ c.in-Ok.is) in omega (arith, h)

pub cut-requires : goal.cut-requires
cut-requires c =
    let entry = c in
    let a = c.args in
    let sec = c.section_of-section in
    let st = c.start_of-at in
    let k = c.count_of-n in
    let f = c.in-Ok.found in
    let h = found-cuts (texts_at a.list sec.result sec.ensures) (text-written (ok_of a.list)) entry.requires.0 a.t.now a.layout entry.requires.1
    entry.requires.2 (texts-sound a.list entry.requires.0 entry.requires.1 entry.requires.2.good).each
    (text-apart a.list sec.result sec.ensures entry.requires.0 a.t.now a.layout entry.requires.1 entry.requires.2 a.x.now) a.x.now st.result
    k.result st.ensures k.ensures.0 f (sym c.find.ensures.0 ∙ c.in-Ok.is) in (h.rising, h.within, h.end, h.most)

pub returns-in-Ok : goal.returns-in-Ok
returns-in-Ok c =
    let a = c.args in
    let sec = c.section_of-section in
    let st = c.start_of-at in
    let k = c.count_of-n in
    let f = c.in-Ok.found in λ n s w. found-held (texts_at a.list sec.result sec.ensures)
    (text-written (ok_of a.list)) n a.t.now a.layout s w (texts-sound a.list n s w.good).each
    (text-apart a.list sec.result sec.ensures n a.t.now a.layout s w a.x.now) a.x.now st.result k.result st.ensures
    k.ensures.0 f (sym c.find.ensures.0 ∙ c.in-Ok.is)
    c.cut.new.t c.cut.result c.cut.auto.t c.cut.ensures
    (text_less a.list sec.result sec.ensures n a.t.now a.layout s w a.x.now)

pub returns-in-Err : goal.returns-in-Err
returns-in-Err c =
    let a = c.args in
    let sec = c.section_of-section in
    let st = c.start_of-at in
    let k = c.count_of-n in λ n s w. subst (Held n a.t.now a.layout)
    (sym (texts-same a.list s) ∙ ap (with_texts a.list s)
    (missing_kept (texts_at a.list sec.result sec.ensures) (text-written (ok_of a.list)) n a.t.now
    a.layout s w (texts-sound a.list n s w.good).each (text-apart a.list sec.result sec.ensures n a.t.now a.layout s w a.x.now)
    a.x.now st.result k.result st.ensures k.ensures.0 c.in-Err.field-0 (sym c.find.ensures.0 ∙ c.in-Err.is))) w
