-- `substitution::put_piece` meets its contract.
use Prim.Native.Nat.{ℕ}
use mathlib.Core.List.{List}
use mathlib.Core.Path.{refl, ap, ◌∙◌}
use native.Mathlib.Omega.{arith}
use lib.ListN.{take, drop}
use Rattle.substitution.proofs.Parts.{piece-written, piece-inserted, written-text, dollar-text, percent-text, source_event, source_matched, source_row, source_head, major-is, minor-is}
use Rattle.lists.proofs.Moves.{sized-part}
use Rattle.engine.specs.Substitute.{first_of, attr_at, matched_in, inserted}
use Rattle.device.specs.Device.{attr_of}
use Rattle.pieces.specs.declared.Piece.TheVariants.{Attr, Env}
use Rattle.pieces.specs.declared.Piece.{Piece}
use Rattle.pieces.specs.Read.{meaning, PieceWithin}
use Rattle.template.specs.Decimal.{decimal}
use Rattle.rows.proofs.Lookup.{value_part}
use Rattle.entries.specs.Entry.{lookup, or_empty}
use Rattle.lists.specs.Runs.{trim}
use Rattle.template.specs.Template as T
use Rattle.substitution.proofs.put_piece.Goals as goal

pub name_at-requires : goal.name_at-requires
name_at-requires c =
    let entry = c.args in
    let pre-call = c.requires in
    let shared-slice-known2 = c.type_inv.dev in
    let args = entry in
    let pre = pre-call in
    source_event args.dev.now args.rec.now (λ i. (shared-slice-known2 i).fits) args.from pre.1.0 pre.1.1

pub put_number-requires : goal.put_number-requires
put_number-requires c =
    let entry = c.args in
    let pre-call = c.requires in
    let shared-slice-known2 = c.type_inv.dev in
    let args = entry in
    let pre = pre-call in
    (source_event args.dev.now args.rec.now (λ i. (shared-slice-known2 i).fits) args.from pre.1.0 pre.1.1, pre.2)

pub path_at-requires : goal.path_at-requires
path_at-requires c =
    let entry = c.args in
    let pre-call = c.requires in
    let shared-slice-known2 = c.type_inv.dev in
    let args = entry in
    let pre = pre-call in
    source_event args.dev.now args.rec.now (λ i. (shared-slice-known2 i).fits) args.from pre.1.0 pre.1.1

pub put_id-requires : goal.put_id-requires
put_id-requires c =
    let entry = c.args in
    let pre-call = c.requires in
    let shared-slice-known2 = c.type_inv.dev in
    let args = entry in
    let pre = pre-call in (
      source_matched args.dev.now args.rec.now (λ i. (shared-slice-known2 i).fits) args.from pre.1.0 pre.1.1,
      pre.2,
    )

pub put_driver-requires : goal.put_driver-requires
put_driver-requires c =
    let entry = c.args in
    let pre-call = c.requires in
    let shared-slice-known2 = c.type_inv.dev in
    let args = entry in
    let pre = pre-call in (
      source_matched args.dev.now args.rec.now (λ i. (shared-slice-known2 i).fits) args.from pre.1.0 pre.1.1,
      pre.2,
    )

pub put_decimal-requires : goal.put_decimal-requires
put_decimal-requires c =
    let entry = c.args in
    let pre-call = c.requires in
    let shared-slice-known2 = c.type_inv.dev in
    let args = entry in
    let pre = pre-call in (
      omega arith,
      omega arith,
      source_head args.dev.now args.rec.now (λ i. (shared-slice-known2 i).fits) args.from pre.1.0 pre.1.1,
      pre.2,
    )

pub put_decimal-requires-in-Minor : goal.put_decimal-requires-in-Minor
put_decimal-requires-in-Minor c =
    let entry = c.args in
    let pre-call = c.requires in
    let shared-slice-known2 = c.type_inv.dev in
    let args = entry in
    let pre = pre-call in (
      omega arith,
      omega arith,
      source_head args.dev.now args.rec.now (λ i. (shared-slice-known2 i).fits) args.from pre.1.0 pre.1.1,
      pre.2,
    )

pub output_of-requires : goal.output_of-requires
output_of-requires c = c.requires.1.1.output.within

pub overflow_add-start : goal.overflow_add-start
overflow_add-start c =
    let entry = c.args in
    let pre = c.requires in
    let p2 = c.in-Attr in
    let w : PieceWithin (Attr p2.start p2.len) entry.template.now = rw p2.is at pre.0 in
    omega arith

pub slice_bounds-put_attribute-end : goal.slice_bounds-put_attribute-end
slice_bounds-put_attribute-end c =
    let entry = c.args in
    let pre = c.requires in
    let p2 = c.in-Attr in
    let w : PieceWithin (Attr p2.start p2.len) entry.template.now = rw p2.is at pre.0 in
    omega arith

pub put_attribute-requires : goal.put_attribute-requires
put_attribute-requires c =
    let entry = c.args in
    let pre-call = c.requires in
    let shared-slice-known2-call = c.type_inv.dev in
    let args = entry in
    let pre = pre-call in
    let shared-slice-known2 = shared-slice-known2-call in (
      source_event args.dev.now args.rec.now (λ i. (shared-slice-known2 i).fits) args.from pre.1.0 pre.1.1,
      source_matched args.dev.now args.rec.now (λ i. (shared-slice-known2 i).fits) args.from pre.1.0 pre.1.1,
      pre.2,
    )

pub overflow_add-start-in-Env : goal.overflow_add-start-in-Env
overflow_add-start-in-Env c =
    let entry = c.args in
    let pre = c.requires in
    let p3 = c.in-Env in
    let w : PieceWithin (Env p3.start p3.len) entry.template.now = rw p3.is at pre.0 in
    omega arith

pub slice_bounds-put_property-end : goal.slice_bounds-put_property-end
slice_bounds-put_property-end c =
    let entry = c.args in
    let pre = c.requires in
    let p3 = c.in-Env in
    let w : PieceWithin (Env p3.start p3.len) entry.template.now = rw p3.is at pre.0 in
    omega arith

pub put_property-requires : goal.put_property-requires
put_property-requires c =
    let pre-call = c.requires in
    let entry = c.args in
    let shared-slice-known2 = c.type_inv.dev in
    let pre = pre-call in
    let args = entry in (
      pre.1.1.inside,
      source_row args.dev.now args.rec.now (λ i. (shared-slice-known2 i).fits) args.from pre.1.0 pre.1.1,
      pre.2,
    )

pub returns-in-Written : goal.returns-in-Written
returns-in-Written c =
    let entry = c.args in
    let p-call = c.in-Written in
    let put-byte-call = c.put_byte in
    let args = entry in
    let p = p-call in
    let put_byte = put-byte-call in
    λ s h.
    piece-written args.spaceless s args.template.now args.p (T.written p.b) _ args.out.now args.used
    put_byte.result _ (ap (λ (y : Piece). meaning y args.template.now) p.is)
    (written-text args.spaceless s p.b) put_byte.ensures

pub returns-in-Kernel : goal.returns-in-Kernel
unfolding inserted
returns-in-Kernel c =
    let entry = c.args in
    let enum_told = c.in-Kernel in
    let name-at = c.name_at in
    let put-text-call = c.put_text in
    let args = entry in
    let put-text = put-text-call in
    λ s h.
    piece-inserted args.spaceless s args.template.now args.p T.kernel _ args.out.now args.used put-text.result _
    (ap (λ (y : Piece). meaning y args.template.now) enum_told.is) refl
    (name-at.ensures s.device.event h.event) put-text.ensures

pub returns-in-Number : goal.returns-in-Number
unfolding inserted
returns-in-Number c =
    let entry = c.args in
    let enum-told2 = c.in-Number in
    let put-number-call = c.put_number in
    let args = entry in
    let put-number = put-number-call in
    λ s h.
    piece-inserted args.spaceless s args.template.now args.p T.number _ args.out.now args.used put-number.result _
    (ap (λ (y : Piece). meaning y args.template.now) enum-told2.is) refl (refl)
    (put-number.ensures s.device.event h.event)

pub returns-in-Devpath : goal.returns-in-Devpath
unfolding inserted
returns-in-Devpath c =
    let entry = c.args in
    let enum-told3 = c.in-Devpath in
    let path-at = c.path_at in
    let put-text2-call = c.put_text-in-Devpath in
    let args = entry in
    let put-text2 = put-text2-call in
    λ s h.
    piece-inserted args.spaceless s args.template.now args.p T.devpath _ args.out.now args.used put-text2.result _
    (ap (λ (y : Piece). meaning y args.template.now) enum-told3.is) refl
    (path-at.ensures s.device.event h.event) put-text2.ensures

pub returns-in-Id : goal.returns-in-Id
unfolding inserted
returns-in-Id c =
    let entry = c.args in
    let enum-told4 = c.in-Id in
    let put-id-call = c.put_id in
    let args = entry in
    let put_id = put-id-call in
    λ s h.
    piece-inserted args.spaceless s args.template.now args.p T.id _ args.out.now args.used put_id.result _
    (ap (λ (y : Piece). meaning y args.template.now) enum-told4.is) refl (refl)
    (put_id.ensures (matched_in s) h.matched)

pub returns-in-Driver : goal.returns-in-Driver
unfolding inserted
returns-in-Driver c =
    let entry = c.args in
    let enum-told5 = c.in-Driver in
    let put-driver-call = c.put_driver in
    let args = entry in
    let put-driver = put-driver-call in
    λ s h.
    piece-inserted args.spaceless s args.template.now args.p T.driver _ args.out.now args.used put-driver.result _
    (ap (λ (y : Piece). meaning y args.template.now) enum-told5.is) refl (refl)
    (put-driver.ensures (matched_in s) h.matched)

pub returns-in-Major : goal.returns-in-Major
unfolding inserted
returns-in-Major c =
    let entry = c.args in
    let shared-slice-known2 = c.type_inv.dev in
    let enum-told6 = c.in-Major in
    let put-decimal-call = c.put_decimal in
    let args = entry in
    let put-decimal = put-decimal-call in
    λ s h.
    piece-inserted args.spaceless s args.template.now args.p T.major _ args.out.now args.used put-decimal.result _
    (ap (λ (y : Piece). meaning y args.template.now) enum-told6.is) refl
    (ap decimal (major-is args.dev.now s.device (λ i. (shared-slice-known2 i).fits) h.device))
    put-decimal.ensures

pub returns-in-Minor : goal.returns-in-Minor
unfolding inserted
returns-in-Minor c =
    let entry = c.args in
    let shared-slice-known2 = c.type_inv.dev in
    let enum-told7 = c.in-Minor in
    let put-decimal2-call = c.put_decimal-in-Minor in
    let args = entry in
    let put-decimal2 = put-decimal2-call in
    λ s h.
    piece-inserted args.spaceless s args.template.now args.p T.minor _ args.out.now args.used put-decimal2.result _
    (ap (λ (y : Piece). meaning y args.template.now) enum-told7.is) refl
    (ap decimal (minor-is args.dev.now s.device (λ i. (shared-slice-known2 i).fits) h.device))
    put-decimal2.ensures

pub returns-in-Result : goal.returns-in-Result
unfolding inserted
returns-in-Result c =
    let args = c.args in
    let told = c.in-Result in
    let output-of = c.output_of in
    let put-text3 = c.put_text-in-Result in
    λ s h.
    piece-inserted args.spaceless s args.template.now args.p T.result _ args.out.now args.used put-text3.result _
    (ap (λ (y : Piece). meaning y args.template.now) told.is) refl (output-of.ensures ∙ h.output.is) put-text3.ensures

pub returns-in-Attr : goal.returns-in-Attr
unfolding inserted
returns-in-Attr c =
    let entry = c.args in
    let p2-call = c.in-Attr in
    let put-attribute-call = c.put_attribute in
    let args = entry in
    let p2 = p2-call in
    let put-attribute = put-attribute-call in
    λ s h.
    piece-inserted args.spaceless s args.template.now args.p
    (T.attr (take p2.len (drop p2.start args.template.now))) _ args.out.now args.used
    put-attribute.result _ (ap (λ (y : Piece). meaning y args.template.now) p2.is) refl
    (ap (λ (k : List ℕ). trim (or_empty (first_of (attr_of k s.device.event) (attr_at k (matched_in s)))))
    (sized-part args.template.now p2.start p2.len))
    (put-attribute.ensures s.device.event h.event (matched_in s) h.matched)

pub returns-in-Env : goal.returns-in-Env
unfolding inserted
returns-in-Env c =
    let entry = c.args in
    let p3-call = c.in-Env in
    let put-property-call = c.put_property in
    let args = entry in
    let p3 = p3-call in
    let put-property = put-property-call in
    λ s h.
    piece-inserted args.spaceless s args.template.now args.p
    (T.env (take p3.len (drop p3.start args.template.now))) _ args.out.now args.used
    put-property.result _ (ap (λ (y : Piece). meaning y args.template.now) p3.is) refl
    (value_part args.rec.now _ args.from.count args.from.properties s.properties h.rest h.properties ∙ ap
    (λ (k : List ℕ). or_empty (lookup k s.properties))
    (sized-part args.template.now p3.start p3.len))
    put-property.ensures

pub returns-in-Dollar : goal.returns-in-Dollar
returns-in-Dollar c =
    let entry = c.args in
    let enum-told9 = c.in-Dollar in
    let put-byte2-call = c.put_byte-in-Dollar in
    let args = entry in
    let put-byte2 = put-byte2-call in
    λ s h.
    piece-written args.spaceless s args.template.now args.p T.dollar _ args.out.now args.used put-byte2.result _
    (ap (λ (y : Piece). meaning y args.template.now) enum-told9.is) (dollar-text args.spaceless s)
    put-byte2.ensures

pub returns-in-Percent : goal.returns-in-Percent
returns-in-Percent c =
    let entry = c.args in
    let enum-told10 = c.in-Percent in
    let put-byte3-call = c.put_byte-in-Percent in
    let args = entry in
    let put-byte3 = put-byte3-call in
    λ s h.
    piece-written args.spaceless s args.template.now args.p T.percent _ args.out.now args.used put-byte3.result _
    (ap (λ (y : Piece). meaning y args.template.now) enum-told10.is) (percent-text args.spaceless s)
    put-byte3.ensures
