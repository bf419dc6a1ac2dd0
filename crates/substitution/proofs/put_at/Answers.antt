-- `substitution::put_at` meets its contract.
use Prim.Native.Nat.{ℕ}
use mathlib.Core.List.{List}
use mathlib.Core.Path.{◌≡◌, sym, ap, subst, ◌∙◌}
use native.Mathlib.Omega.{arith}
use Rattle.std.specs.Prelude.{None, Some, Ok, Err}
use Rattle.substitution.proofs.Texts.{plain-next, piece-next, piece-end, piece-fault, turn_text, turn_full}
use Rattle.insertion.proofs.Laws.{appended_none}
use Rattle.insertion.specs.Append.{Appended}
use Rattle.pieces.specs.Read.{piece, end, meaning, told, read_at, Ahead, Within}
use Rattle.substitution.proofs.put_at.Goals as goal

pub returns-in_err-used : goal.returns-in_err-used
returns-in_err-used c =
    let a = c.args in
    let end = c.plain_end-end in
    rw c.from_residual.ensures (
      tt,
      λ s h.
          turn_full a.spaceless s a.template.now a.i a.out.now a.used _ end.result (plain-next a.spaceless s a.template.now a.i end.result end.ensures c.requires.1).1
          c.put_text.new.out c.in_err-used.ensures,
    )

pub returns-then-i-end : goal.returns-then-i-end
returns-then-i-end c =
    let a = c.args in
    let end = c.plain_end-end in
    let used = c.in_ok-used in (
      record {
        forward = c.if-i-end.true;
        inside = omega (arith, end.ensures.within);
        sound = (plain-next a.spaceless c.requires.2.0 a.template.now a.i end.result end.ensures c.requires.1).0;
        room = used.ensures.room;
      },
      λ s h.
          turn_text a.spaceless s a.template.now a.i a.out.now a.used _ end.result (plain-next a.spaceless s a.template.now a.i end.result end.ensures c.requires.1).1
          used.used c.put_text.new.out used.ensures,
    )

pub put_piece-requires : goal.put_piece-requires
put_piece-requires c =
    let a = c.args in
    let t = a.template.now in
    let read = c.in-Some in
    let ahead : Ahead read.read.piece read.read.next t a.i = subst (λ r. Within r t a.i) (c.in-Ok.is ∙ ap Ok read.is) c.piece_at.ensures.1 in
    (ahead.text, c.requires.2, c.requires.3)

pub returns-in_err-put : goal.returns-in_err-put
returns-in_err-put c =
    let a = c.args in
    let t = a.template.now in
    let read = c.in-Some in
    let e : read_at t a.i ≡ piece (meaning read.read.piece t) read.read.next = sym (subst (λ r. told r t ≡ read_at t a.i) (c.in-Ok.is ∙ ap Ok read.is) c.piece_at.ensures.0) in
    rw c.from_residual-in_err-put.ensures (
      tt,
      λ s h.
          turn_full a.spaceless s t a.i a.out.now a.used _ read.read.next (piece-next a.spaceless s t a.i (meaning read.read.piece t) read.read.next e c.requires.1).1
          c.put_piece.new.out (c.in_err-put.ensures s h),
    )

pub returns : goal.returns
returns c =
    let a = c.args in
    let t = a.template.now in
    let read = c.in-Some in
    let e : read_at t a.i ≡ piece (meaning read.read.piece t) read.read.next = sym (subst (λ r. told r t ≡ read_at t a.i) (c.in-Ok.is ∙ ap Ok read.is) c.piece_at.ensures.0) in
    let ahead : Ahead read.read.piece read.read.next t a.i = subst (λ r. Within r t a.i) (c.in-Ok.is ∙ ap Ok read.is) c.piece_at.ensures.1 in
    let put = c.in_ok-put in (
      record {
        forward = ahead.forward;
        inside = ahead.inside;
        sound = (piece-next a.spaceless c.requires.2.0 t a.i (meaning read.read.piece t) read.read.next e c.requires.1).0;
        room = (put.ensures c.requires.2.0 c.requires.2.1).room;
      },
      λ s h.
          turn_text a.spaceless s t a.i a.out.now a.used _ read.read.next (piece-next a.spaceless s t a.i (meaning read.read.piece t) read.read.next e c.requires.1).1
          put.put c.put_piece.new.out (put.ensures s h),
    )

pub returns-in_default : goal.returns-in_default
returns-in_default c =
    let a = c.args in
    let t = a.template.now in
    let e : read_at t a.i ≡ end = sym (subst (λ r. told r t ≡ read_at t a.i) (c.in-Ok.is ∙ ap Ok c.in_default.is) c.piece_at.ensures.0) in (
      tt,
      λ s h. subst (λ (x : List ℕ). Appended x a.out.now a.used (Some a.used) a.out.now) (piece-end a.spaceless s t a.i e) (appended_none a.out.now a.used c.requires.3),
    )

pub returns-in-Err : goal.returns-in-Err
returns-in-Err c =
    let a = c.args in
    let t = a.template.now in
    let e = sym (subst (λ r. told r t ≡ read_at t a.i) c.in-Err.is c.piece_at.ensures.0) in
    (tt, λ s h. absurd (piece-fault t a.i e c.requires.1))
