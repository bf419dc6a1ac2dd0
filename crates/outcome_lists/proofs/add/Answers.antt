-- `outcome_lists::add` meets its contract.
use mathlib.Core.Path.{sym, ◌∙◌, subst}
use mathlib.Core.List.{[], ◌∷◌, ◌++◌}
use lib.ListN.{length}
use Prim.Native.Nat.{◌<◌}
use Rattle.outcome_target.specs.Held.{Held}
use Rattle.outcome_target.specs.Texts.{texts_in, most_of}
use Rattle.outcome_readers.proofs.Rows.{texts_read}
use Rattle.outcome_lists.proofs.Texts.{texts-same, most_is, add-held, add_last, add_full, text_room, text-count, text-among, text_grown}
use native.Mathlib.Omega.{arith}
use Rattle.outcome_lists.proofs.add.Goals as goal

pub has-requires : goal.has-requires
has-requires c =
    let entry = c in
    let x = entry.args in
    let a = x in
    let sec = c.section_of-section in
    let st = c.start_of-at in
    let k = c.count_of-n in
    let h = texts_read a.list sec.result sec.ensures entry.requires.0.0 a.t.now a.layout entry.requires.0.1 entry.requires.0.2 st.result k.result st.ensures k.ensures.0 in (h.within, h.row)

pub returns-then-has : goal.returns-then-has
returns-then-has c =
    let given = c.args in
    let a = given in
    let sec = c.section_of-section in
    let st = c.start_of-at in
    let k = c.count_of-n in λ n s w. let y = text-among a.list sec.result sec.ensures n a.t.now a.layout s w a.x.now st.result k.result st.ensures k.ensures.0 c.has.result c.has.ensures in
    let m = text-count a.list sec.result sec.ensures n a.t.now a.layout s w a.x.now st.result k.result st.ensures
    k.ensures.0 in (texts_in a.list s, add-held (most_of a.list) a.x.now (texts_in a.list s) (sym y ∙ c.if-has.true), subst (Held n a.t.now a.layout) (sym (texts-same a.list s)) w)

pub returns-then-n-ge16 : goal.returns-then-n-ge16
returns-then-n-ge16 c =
    let a = c.args in
    let sec = c.section_of-section in
    let st = c.start_of-at in
    let k = c.count_of-n in λ n s w. let y = text-among a.list sec.result sec.ensures n a.t.now a.layout s w a.x.now st.result k.result st.ensures k.ensures.0 c.has.result c.has.ensures in
    let m = text-count a.list sec.result sec.ensures n a.t.now a.layout s w a.x.now st.result k.result st.ensures k.ensures.0 in add_full (most_of a.list) a.x.now (texts_in a.list s) (sym y ∙ c.if-has.false) (omega (arith, most_is a.list))

pub append_text-requires : goal.append_text-requires
append_text-requires c =
    let entry = c in
    let given = entry.args in
    let a = given in
    let sec = c.section_of-section in
    let st = c.start_of-at in
    let k = c.count_of-n in
    let w = entry.requires.0.2 in
    let y = text-among a.list sec.result sec.ensures entry.requires.0.0 a.t.now a.layout entry.requires.0.1 w a.x.now st.result k.result st.ensures k.ensures.0 c.has.result c.has.ensures in
    let m = text-count a.list sec.result sec.ensures entry.requires.0.0 a.t.now a.layout entry.requires.0.1 w a.x.now st.result k.result st.ensures k.ensures.0 in
    let h = text_room a.list sec.result sec.ensures entry.requires.0.0 a.t.now a.layout entry.requires.0.1 w a.x.now entry.requires.1 (sym y ∙ c.if-has.false) (omega arith) in (h.0.rising, omega (arith, h.0.fits), h.1, omega arith, omega (arith, h.0.most))

pub returns : goal.returns
returns c =
    let entry = c in
    let given = entry.args in
    let a = given in
    let sec = c.section_of-section in
    let st = c.start_of-at in
    let k = c.count_of-n in λ n s w. let y = text-among a.list sec.result
    sec.ensures n a.t.now a.layout s w a.x.now st.result k.result st.ensures k.ensures.0
    c.has.result c.has.ensures in
    let m = text-count a.list sec.result sec.ensures n a.t.now a.layout s w a.x.now st.result k.result st.ensures k.ensures.0 in
    let i : length (texts_in a.list s) < 16 = omega arith in (
      texts_in a.list s ++ (a.x.now ∷ []),
      add_last (most_of a.list) a.x.now (texts_in a.list s)
          (sym y ∙ c.if-has.false) (omega (arith, most_is a.list)),
      text_grown a.list sec.result
          sec.ensures n a.t.now a.layout s w a.x.now st.result k.result st.ensures k.ensures.0 c.append_text.new.t
          c.append_text.result c.append_text.auto.t entry.requires.1
          (sym y ∙ c.if-has.false) i c.append_text.ensures,
    )
