-- The fullest outcome record has 18,125 bytes.
-- Assumes nothing.
use Prim.Native.Nat.{ℕ, ◌+◌, ◌*◌, ◌≤◌}
use mathlib.Core.Path.{◌≡◌, refl}
use mathlib.Core.Bool.{true}
use mathlib.Core.List.{List}
use native.Mathlib.Omega.{arith}
use lib.ListN.{length, length-append}
use lib.Dec.{leb}
use borrow.Author.Tests.{leb-true}
use Rattle.lists.specs.Lists.{cat, all}
use Rattle.lists.specs.Bytes.{clean, ok_text}
use Rattle.lists.proofs.Tests.{and_both}
use Rattle.lists.proofs.Lists.{cat-size}
use Rattle.bits.specs.Fields.{packed}
use Rattle.bits.proofs.Fields.{length-packed}
use Rattle.entries.specs.Entry.{enc_text, ok_prop, enc_prop}
use Rattle.entries.proofs.Entries.{text-size, prop_size}
use Rattle.template.specs.Template.{well_formed}
use Rattle.outcome.proofs.Head.{header-length}
use Rattle.outcome.specs.Content.{ok_link, ok_name, ok_owner, owner_byte, ok_output}
use Rattle.outcome.specs.State.{Run, State, ok_run, run_fields, enc_run, ok_tag, encode, Good}

link_size : (x : List ℕ) → ok_link x ≡ true → length (enc_text x) ≤ 129
link_size x h =
    let a = and_both (ok_name x) (clean x) h in
    let b = and_both (leb (length x) 128) _ a.0 in
    let c = leb-true (length x) 128 b.0 in
    omega arith

run-size : (n : ℕ) (r : Run) → ok_run n r ≡ true → length (enc_run r) ≤ 258
run-size n r h =
    let a = and_both (leb r.place 16) _ h in
    let b = and_both (leb r.place n) _ a.1 in
    let c = and_both (ok_text 256 r.template) (well_formed r.template) b.1 in
    let d = text-size 256 r.template c.0 in
    let e = length-packed (run_fields r) 2 refl in
    omega (arith, length-append (packed (run_fields r)) r.template)

owner-size : (x : List ℕ) → ok_owner x ≡ true → length x ≤ 32
owner-size x h = leb-true (length x) 32 (and_both (leb (length x) 32) (all owner_byte x) h).0

output_size : (x : List ℕ) → ok_output x ≡ true → length x ≤ 512
output_size x h = leb-true (length x) 512 (and_both (leb (length x) 512) (clean x) h).0

sum : (x o g l p t r nl np nt nr : ℕ) → o ≤ 32 → g ≤ 32 → l ≤ 129 * nl → p ≤ 322 * np → t ≤ 65 * nt → r ≤ 258 * nr
    → nl ≤ 16 → np ≤ 32 → nt ≤ 16 → nr ≤ 16 → 13 + (x + (o + (g + (l + (p + (t + r)))))) ≤ 17613 + x
sum x o g l p t r nl np nt nr ho hg hl hp ht hr a b c d = omega arith

pub encode-size : (s : State)
    → length (encode s)
    ≡ 13 + (length s.output + (length s.owner + (length s.group + (length (cat enc_text s.links) + (length (cat enc_prop s.properties) + (length (cat enc_text s.tags) + length (cat enc_run s.runs)))))))
unfolding encode
encode-size s = simp (length-append, header-length) (omega arith)

-- all but the output
fits-beside : (n : ℕ) (s : State) → Good n s → length (encode s) ≤ 17613 + length s.output
fits-beside n s g =
    rw (encode-size s)
    (sum (length s.output) (length s.owner) (length s.group) (length (cat enc_text s.links)) (length (cat enc_prop s.properties)) (length (cat enc_text s.tags)) (length (cat enc_run s.runs))
    (length s.links) (length s.properties) (length s.tags) (length s.runs)
    (owner-size s.owner g.owner) (owner-size s.group g.group)
    (cat-size enc_text ok_link 129 link_size s.links g.links.each)
    (cat-size enc_prop ok_prop 322 prop_size s.properties g.properties.each)
    (cat-size enc_text ok_tag 65 (text-size 64) s.tags g.tags.each)
    (cat-size enc_run (ok_run n) 258 (run-size n) s.runs g.runs.each)
    g.links.few g.properties.few g.tags.few g.runs.few)

pub fits : (n : ℕ) (s : State) → Good n s → length (encode s) ≤ 18125
fits n s g = omega (arith, fits-beside n s g, output_size s.output g.output)

-- without an output
pub fits-plain : (n : ℕ) (s : State) → Good n s → length s.output ≡ 0 → length (encode s) ≤ 17613
fits-plain n s g e = omega (arith, fits-beside n s g)
