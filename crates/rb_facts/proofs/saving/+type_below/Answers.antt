use Rattle.std.proofs.Common.{length, refl, sym, ap, ◌∙◌, ◌-◌, get_or, take, drop}
use Rattle.std.specs.Prelude.{slice_get}
use Rattle.std.proofs.lemmas.Option.{slice_get_read}
use Rattle.rb_decide.proofs.Building.{split-rest, get-same}
use Rattle.rb_facts.proofs.Following.{no-item}
use Rattle.rb_facts.proofs.SavedParts.{below_option, here_is}
use Rattle.rb_facts.proofs.saving.+type_below.Goals as goal

pub returns-in_default : goal.returns-in_default
returns-in_default t c = rw (no-item c.args.path.now c.in_default.len_below) (here_is c.args.types.now c.args.ty c.args.pat.now)

pub returns-in-Some-Some : goal.returns-in-Some-Some
returns-in-Some-Some t c =
    let fields = c.types_of_fields-fields.result.now in
    let first = get_or c.args.path.now 0 0 in
    let known = slice_get_read fields (length fields) first c.in-Some-Some.at.now refl c.in-Some-Some.ensures'.lookup.3.0 c.in-Some-Some.ensures'.lookup.1 in
    let whole = split-rest c.args.path.now first c.in-len1-up.len_at_least (get-same c.args.path.now 0 0 first c.in-len1-up.len_at_least) in
    rw whole (below_option c.args.types.now c.args.ty c.in-Some-Some.at.now c.args.pat.now c.in-Some-Some.sub.now first (take (length c.args.path.now - 1) (drop 1 c.args.path.now)) c.in-Con.field-0 c.in-Con.con c.in-Con.subs c.type_below.result c.in-Con.is
    (sym c.in-Some-Some.ensures.value) (ap (λ l. slice_get l first) (sym c.types_of_fields-fields.ensures) ∙ known) c.type_below.ensures)
