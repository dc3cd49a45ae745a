use Rattle.std.proofs.Common.{get_or, arith, ap, sym, ◌∙◌, map, ℕ}
use Rattle.std.proofs.lemmas.Result.{IfOk-weaker}
use Rattle.rb_core.specs.declared.types.Ty.TheVariants.{Int}
use Rattle.rb_core.specs.declared.pattern.Pat.{Con}
use Rattle.rb_core.proofs.PatternLaws.{fold-Con}
use Rattle.rb_target.specs.Growth.{Grows}
use Rattle.rb_target.proofs.Growing.{Grows-refl, Grows-trans}
use Rattle.rb_decide.proofs.Building.{split-rest, get-same}
use Rattle.rb_match.specs.Choosing.{BindsPattern}
use Rattle.rb_match.specs.inner.Binding.{BindsBare, BindsFieldFrom, BindsFieldsFrom, weight, weights, weight_step}
use Rattle.rb_match.proofs.FieldSources.{source_field, source_fields, source_none, source_unbound}
use Rattle.rb_facts.proofs.Following.{no-item}
use Rattle.rb_match.proofs.binding.+binding.Goals as goal

pub bind_at-returns-in-Wild-clause-binds : goal.bind_at-returns-in-Wild-clause-binds
bind_at-returns-in-Wild-clause-binds t c =
    IfOk-weaker c.bind_bare.result (λ bound. BindsBare c.args.ty c.args.pat.now c.args.words.now bound) (λ bound. BindsPattern c.args.agreed.now c.args.ty c.args.pat.now c.args.words.now c.args.body.now c.args.body.now bound)
    (λ bound binds. binds c.args.agreed.now c.args.body.now) c.bind_bare.ensures

pub bind_at-returns-in-Wild-clause-grows : goal.bind_at-returns-in-Wild-clause-grows
bind_at-returns-in-Wild-clause-grows t c =
    IfOk-weaker c.bind_bare.result (λ bound. BindsBare c.args.ty c.args.pat.now c.args.words.now bound) (λ bound. Grows c.args.body.now.code c.args.body.now.code) (λ bound binds. Grows-refl c.args.body.now.code) c.bind_bare.ensures

pub bind_at-returns-in_ok-source-in-Con-clause-binds : goal.bind_at-returns-in_ok-source-in-Con-clause-binds
bind_at-returns-in_ok-source-in-Con-clause-binds t c =
    let source = c.in_ok-source-in-Con.source in
    let mid = c.field_source.new.body in
    let new = c.bind_fields.new.body in
    IfOk-weaker c.bind_fields.result (λ bound. BindsFieldsFrom c.args.agreed.now source c.as_slice-subs.result.now c.fields_of_con-fields.result.now 0 mid new bound) (λ bound. BindsPattern c.args.agreed.now c.args.ty c.args.pat.now c.args.words.now c.args.body.now new bound)
    (λ bound binds. c.in_ok-source-in-Con.ensures.gives c.in-Con.field-0 (c.in-Con.is ∙ ap (λ l. Con c.in-Con.field-0 c.in-Con.con l) (sym c.as_slice-subs.ensures)) c.fields_of_con-fields.ensures new bound binds) c.bind_fields.ensures.binds

pub bind_at-returns-in_ok-source-in-Con-clause-grows : goal.bind_at-returns-in_ok-source-in-Con-clause-grows
bind_at-returns-in_ok-source-in-Con-clause-grows t c =
    let mid = c.field_source.new.body.code in
    let new = c.bind_fields.new.body.code in
    IfOk-weaker c.bind_fields.result (λ bound. Grows mid new) (λ bound. Grows c.args.body.now.code new) (λ bound grows. Grows-trans _ _ _ c.in_ok-source-in-Con.ensures.grows grows) c.bind_fields.ensures.grows

pub bind_at-bind_fields-requires : goal.bind_at-bind_fields-requires
bind_at-bind_fields-requires t c =
    let sum = ap weight c.in-Con.is ∙ fold-Con ℕ weight_step c.in-Con.field-0 c.in-Con.con c.in-Con.subs in
    let subs = ap (λ l. weights (map weight l)) c.as_slice-subs.ensures in
    omega (arith, sum, subs, c.decreases)

pub bind_field-returns-then-binds_nothing-clause-binds : goal.bind_field-returns-then-binds_nothing-clause-binds
bind_field-returns-then-binds_nothing-clause-binds t c =
    rw c.new.ensures (source_unbound c.args.agreed.now c.args.source.now c.args.sub.now c.args.field c.args.i c.args.body.now (sym c.binds_nothing.ensures ∙ c.if-binds_nothing.true))

pub bind_field-bind_at-requires : goal.bind_field-bind_at-requires
bind_field-bind_at-requires t c = omega (arith, c.decreases)

pub bind_field-returns-clause-binds : goal.bind_field-returns-clause-binds
bind_field-returns-clause-binds t c =
    let mid = c.field_slots.new.body in
    let new = c.bind_at.new.body in
    let slots = c.in_ok-slots.slots in
    IfOk-weaker c.bind_at.result (λ bound. BindsPattern c.args.agreed.now c.args.field c.args.sub.now slots mid new bound) (λ bound. BindsFieldFrom c.args.agreed.now c.args.source.now c.args.sub.now c.args.field c.args.i c.args.body.now new bound)
    (λ bound binds. source_field c.args.agreed.now c.args.source.now c.args.sub.now c.args.field c.args.i c.args.body.now mid new slots bound c.in_ok-slots.ensures.stands binds) (rw c.as_slice.ensures at c.bind_at.ensures.binds)

pub bind_fields-returns-in_default-clause-binds : goal.bind_fields-returns-in_default-clause-binds
bind_fields-returns-in_default-clause-binds t c =
    let none = no-item c.args.subs.now c.in_default.len_below in
    rw (none, c.new.ensures) (source_none c.args.agreed.now c.args.source.now c.args.fields.now c.args.i c.args.body.now)

pub bind_fields-bind_field-requires : goal.bind_fields-bind_field-requires
bind_fields-bind_field-requires t c =
    let first = c.sub-item.result in
    let whole = split-rest c.args.subs.now first c.in-len1-up.len_at_least c.sub-item.is in
    let sum = ap (λ l. weights (map weight l)) whole in
    omega (arith, sum, c.decreases)

pub bind_fields-bind_fields-requires : goal.bind_fields-bind_fields-requires
bind_fields-bind_fields-requires t c =
    let first = c.sub-item.result in
    let whole = split-rest c.args.subs.now first c.in-len1-up.len_at_least c.sub-item.is in
    let sum = ap (λ l. weights (map weight l)) whole in
    omega (arith, sum, c.decreases)

pub bind_fields-returns-clause-binds : goal.bind_fields-returns-clause-binds
bind_fields-returns-clause-binds t c =
    let first = c.sub-item.result in
    let whole = split-rest c.args.subs.now first c.in-len1-up.len_at_least c.sub-item.is in
    let field = get_or c.args.fields.now 0 (Int 0) in
    let fields = split-rest c.args.fields.now field c.in-len1-up-fields.len_at_least (get-same c.args.fields.now 0 (Int 0) field c.in-len1-up-fields.len_at_least) in
    rw (whole, fields, c.in_ok-all.ensures) (source_fields c.args.agreed.now c.args.source.now first _ field _ c.args.i c.args.body.now c.bind_field.new.body c.bind_fields.new.body c.in_ok-bound.bound c.in_ok-more.more (rw c.in_ok-number.ensures at c.in_ok-bound.ensures.binds)
    c.in_ok-more.ensures.binds)

pub bind_field-returns-then-binds_nothing-clause-grows : goal.bind_field-returns-then-binds_nothing-clause-grows
bind_field-returns-then-binds_nothing-clause-grows t c = Grows-refl c.args.body.now.code

pub bind_field-returns-clause-grows : goal.bind_field-returns-clause-grows
bind_field-returns-clause-grows t c =
    let mid = c.field_slots.new.body.code in
    let new = c.bind_at.new.body.code in
    IfOk-weaker c.bind_at.result (λ bound. Grows mid new) (λ bound. Grows c.args.body.now.code new) (λ bound grows. Grows-trans _ _ _ c.in_ok-slots.ensures.grows grows) c.bind_at.ensures.grows

pub bind_fields-returns-in_default-clause-grows : goal.bind_fields-returns-in_default-clause-grows
bind_fields-returns-in_default-clause-grows t c = Grows-refl c.args.body.now.code

pub bind_fields-returns-clause-grows : goal.bind_fields-returns-clause-grows
bind_fields-returns-clause-grows t c = Grows-trans _ _ _ c.in_ok-bound.ensures.grows c.in_ok-more.ensures.grows
