use Rattle.std.proofs.Common.{length, refl, sym, ap, ◌∙◌, get_or}
use Rattle.std.specs.Prelude.{slice_get}
use Rattle.std.proofs.lemmas.Option.{slice_get_read}
use Rattle.rb_decide.proofs.Building.{split-rest, get-same}
use Rattle.rb_facts.proofs.Placing.{place-under}
use Rattle.rb_facts.proofs.place.+has_place.Goals as goal

pub returns-in-Some-Some : goal.returns-in-Some-Some
returns-in-Some-Some t c is_there =
    let fields = c.types_of_fields-fields.result.now in
    let known = slice_get_read fields (length fields) (get_or c.args.position.now 0 0) c.in-Some-Some.ty.now refl c.in-Some-Some.ensures'.lookup.3.0 c.in-Some-Some.ensures'.lookup.1 in
    let first = get_or c.args.position.now 0 0 in
    let whole = split-rest c.args.position.now first c.in-len1-up.len_at_least (get-same c.args.position.now 0 0 first c.in-len1-up.len_at_least) in
    rw (c.in-Con.is, whole) (place-under c.args.types.now c.args.ty c.in-Con.field-0 c.in-Con.con c.in-Con.subs first _ c.in-Some-Some.sub.now c.in-Some-Some.ty.now c.args.at
    (sym c.in-Some-Some.ensures.value) (ap (λ l. slice_get l first) (sym c.types_of_fields-fields.ensures) ∙ known) (c.has_place.ensures is_there))
