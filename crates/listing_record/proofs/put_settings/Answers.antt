-- `listing_record::put_settings` meets its contract.
use Rattle.std.proofs.Common.{◌++◌, arith, length-append}
use Rattle.lists.specs.Quoted.{bytes}
use Rattle.engine.specs.Listing.{set_line, mode_line, watch_line}
use Rattle.listing_lines.proofs.Laws.{behind}
use Rattle.listing_record.proofs.put_settings.Goals as goal

pub returns-in_err-priority : goal.returns-in_err-priority
unfolding bytes
returns-in_err-priority c = rw c.from_residual.ensures (λ n s h. simp length-append (omega (arith, c.in_err-priority.ensures n s h)))

pub returns-in_err-mode : goal.returns-in_err-mode
unfolding bytes
returns-in_err-mode c =
    rw c.from_residual-in_err-mode.ensures
    (λ n s h. simp length-append (omega (arith, c.in_ok-priority.ensures n s h, c.in_err-mode.ensures n s h)))

pub returns-in_err-owner : goal.returns-in_err-owner
unfolding bytes
returns-in_err-owner c =
    rw c.from_residual-in_err-owner.ensures
    (λ n s h. simp length-append (omega (arith, c.in_ok-priority.ensures n s h, c.in_ok-mode.ensures n s h, c.in_err-owner.ensures n s h)))

pub returns-in_err-group : goal.returns-in_err-group
unfolding bytes
returns-in_err-group c =
    rw c.from_residual-in_err-group.ensures
    (λ n s h.
    simp length-append
    (omega (arith, c.in_ok-priority.ensures n s h, c.in_ok-mode.ensures n s h, c.in_ok-owner.ensures n s h, c.in_err-group.ensures n s h)))

pub returns : goal.returns
unfolding bytes
returns c =
    let r = c.put_watch.result in
    let out = c.put_watch.new.out in
    λ n s h.
    let watched = watch_line s.watch in
    let grouped = set_line (bytes "group") s.group ++ watched in
    let owned = set_line (bytes "owner") s.owner ++ grouped in
    behind (c.in_ok-priority.ensures n s h) (mode_line s.mode ++ owned) r out
    (behind (c.in_ok-mode.ensures n s h) owned r out
    (behind (c.in_ok-owner.ensures n s h) grouped r out
    (behind (c.in_ok-group.ensures n s h) watched r out (c.put_watch.ensures n s h))))
