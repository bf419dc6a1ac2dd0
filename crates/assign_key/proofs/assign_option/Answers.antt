-- `assign_key::assign_option` meets its contract.
use Rattle.assign_key.proofs.Keys.{option_none, option_replace, option_watch, option_nowatch, option_priority, option_faulty}
use native.Mathlib.Omega.{arith}
use borrow.Author.Rules.{rules}
use Rattle.assign_key.proofs.assign_option.Goals as goal

pub set_watch-requires : goal.set_watch-requires
set_watch-requires c = let (n, s, h) = c.requires in (omega (arith, h.room), search rules)

pub set_watch-requires-in-Some-NoWatch : goal.set_watch-requires-in-Some-NoWatch
set_watch-requires-in-Some-NoWatch c = let (n, s, h) = c.requires in (omega (arith, h.room), search rules)

pub set_priority-requires : goal.set_priority-requires
set_priority-requires c = let (n, s, h) = c.requires in (omega (arith, h.room), search rules)

pub returns-in-Some-EscapeNone : goal.returns-in-Some-EscapeNone
returns-in-Some-EscapeNone c =
    let a = c.args in
    let setting-of = c.setting_of in
    λ n s h. (s, option_none a.value.now s a.work.escape setting-of.result setting-of.ensures (cc), h)

pub returns-in-Some-EscapeReplace : goal.returns-in-Some-EscapeReplace
returns-in-Some-EscapeReplace c =
    let a = c.args in
    let setting-of = c.setting_of in
    λ n s h. (s, option_replace a.value.now s a.work.escape setting-of.result setting-of.ensures (cc), h)

pub returns-in-Some-Watch : goal.returns-in-Some-Watch
returns-in-Some-Watch c =
    let a = c.args in
    let setting-of = c.setting_of in
    λ n s h. (_, option_watch a.value.now s a.work.escape setting-of.result setting-of.ensures (cc), c.set_watch.ensures n a.work.layout s h)

pub returns-in-Some-NoWatch : goal.returns-in-Some-NoWatch
returns-in-Some-NoWatch c =
    let a = c.args in
    let setting-of = c.setting_of in
    λ n s h. (_, option_nowatch a.value.now s a.work.escape setting-of.result setting-of.ensures (cc), c.set_watch-in-Some-NoWatch.ensures n a.work.layout s h)

pub returns-in-Some-Priority : goal.returns-in-Some-Priority
returns-in-Some-Priority c =
    let a = c.args in
    let setting-of = c.setting_of in
    let priority = c.in-Some-Priority in
    let from-signed = c.from_signed in
    λ n s h. (
      _,
      option_priority a.value.now s a.work.escape setting-of.result setting-of.ensures priority.priority (cc) _ from-signed.ensures,
      c.set_priority.ensures n a.work.layout s h,
    )

pub returns-in-None : goal.returns-in-None
returns-in-None c =
    let a = c.args in
    let setting-of = c.setting_of in
    λ n s h. (s, option_faulty a.value.now s a.work.escape setting-of.result setting-of.ensures c.in-None.is, h)
