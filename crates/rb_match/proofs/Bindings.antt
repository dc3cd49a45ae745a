-- Code that binds: nothing, a variable, a field, several fields, a constructor.
use Rattle.std.proofs.Common.{◌≡◌, ℕ, suc, ◌+◌, inl, inr, Bool, true, false, List, [], ◌∷◌, ◌++◌, map, length, Some, refl, sym, subst, ap, ◌∙◌, arith, ◌≤◌}
use Rattle.std.specs.Prelude.{slice_get, if◌then◌else◌}
use Rattle.std.proofs.lemmas.Bool.{false≢true, and_parts}
use Rattle.std.proofs.lemmas.Option.{slice_get_within}
use Rattle.rb_core.specs.declared.value.Value.{Value, out-Value}
use Rattle.rb_core.specs.declared.value.Value.TheOpen as V
use Rattle.rb_core.specs.declared.types.Ty.{Ty}
use Rattle.rb_core.specs.declared.types.Ty.TheVariants.{Named}
use Rattle.rb_core.specs.declared.types.ConRef.{ConRef}
use Rattle.rb_core.specs.declared.types.DataDecl.{DataDecl}
use Rattle.rb_core.specs.declared.typing.Binder.{Binder}
use Rattle.rb_core.specs.declared.binding.Binding.{Binding}
use Rattle.rb_core.specs.declared.pattern.Pat.{Pat, Wild, Var, Num, Con}
use Rattle.rb_core.specs.Inference.{binders, binders_step, all_binders}
use Rattle.rb_core.specs.Matching.{all_bindings, all_pass, bindings, layer_bindings, matches_of}
use Rattle.rb_core.specs.Typing.{field_types}
use Rattle.rb_core.specs.Values.{part_at, subs_in}
use Rattle.rb_core.proofs.MatchingForms.{matches-Con, bindings-Wild, bindings-Var, bindings-Num, bindings-Con}
use Rattle.rb_core.proofs.PatternLaws.{fold-Wild, fold-Var, fold-Num, fold-Con}
use Rattle.rb_bytes.specs.Memory.{Memory, IsGood}
use Rattle.rb_target.specs.Growth.{Keeps, Nowhere}
use Rattle.rb_target.specs.Meaning.{slots_at}
use Rattle.rb_target.specs.Sheet.{Sheet}
use Rattle.rb_layout.specs.declared.agreed.LaidOut.{LaidOut}
use Rattle.rb_layout.specs.declared.layout.Layout.{Layout}
use Rattle.rb_layout.specs.Positions.{layout_of, leaf_of}
use Rattle.rb_rel.proofs.Leaves.{leaf_matches}
use Rattle.rb_rel.proofs.Represented.{opened}
use Rattle.rb_fragment.specs.declared.held.Local.{Local}
use Rattle.rb_fragment.specs.Holding.{AreGiven, Holds, binder_in, scope_of}
use Rattle.rb_rel.specs.Switches.{depth_of, mend_of}
use Rattle.rb_facts.specs.Looks.{TypedPosition, takes_none_apart, looks_with, place_below, places_below, places_in, places_step, rebuilding_bound}
use Rattle.rb_match.specs.Bounding.{binding_bound, binding_look}
use Rattle.rb_facts.specs.Saving.{FetchesPart, mend_at, mends_at, mends_from}
use Rattle.rb_facts.proofs.Composing.{pieces, piece_framed, piece_less}
use Rattle.rb_facts.proofs.Mending.{mends_within, MendsIn}
use Rattle.rb_fragment.specs.Pieces.{AtEnd, CodePiece}
use Rattle.rb_fragment.specs.Plan.{Plan, Rep, words_needed}
use Rattle.rb_fragment.specs.Slots.{AllBelow}
use Rattle.rb_fragment.proofs.Adding.{Adds-refl, Adds-trans}
use Rattle.rb_fragment.proofs.Holds.{AllBelow-more, AreGiven-more, AreGiven-append, Holds-append, IsOfLocal-append, slots_at-kept}
use Rattle.rb_fragment.proofs.Pieces.{piece_none}
use Rattle.rb_fetch.specs.Finding.{IsPlanOf, leaf_count, leaf_within, layout_leaf_count}
use Rattle.rb_match.specs.Choosing.{Binds, BindsPattern}
use Rattle.rb_match.specs.inner.Binding.{is_unbound, IsOnlyLeaf, BindsParts, FieldsMatch, BindsFields, FieldMatches, BindsField, fields_bound}
use Rattle.rb_match.proofs.Unbound.{unbound_binds}
use Rattle.rb_facts.proofs.Shown.{begins_with}

-- nothing is done
nothing : (plan : Plan) (b : Sheet) (most : ℕ) (Pre Post : List ℕ → Memory → Type 0) → ((s : List ℕ) (m : Memory) → Pre s m → Post s m) → CodePiece plan b.slots b b Nowhere most Pre (AtEnd b Post)
nothing plan b most Pre Post f = piece_less plan b.slots b.slots b b 0 most Pre Pre Post Post (omega arith) (omega arith) (λ s m x. x) (λ s m x. x) (piece_none plan b.slots b Pre Post (omega arith) f)

-- nothing is bound
none_bound : (plan : Plan) (pat : Pat) (t : Ty) (words : List ℕ) (old : Sheet) → binders plan.program.types pat t ≡ [] → ((v : Value) → bindings pat v ≡ []) → Binds plan pat t words old old []
none_bound plan pat t words old scope bound = record {
  adds = Adds-refl plan old;
  scope = sym scope;
  given = tt;
  origin = λ x o. absurd o;
  runs = λ clean v m. nothing plan old (binding_bound plan.program.types plan.layouts t pat) (λ s m. IsGood m × Rep plan m clean t v (slots_at s words)) (λ s m. Holds plan clean s m [] (bindings pat v)) (λ s m pre. subst (λ bs. Holds plan clean s m [] bs) (sym (bound v)) tt);
}

binders-at : (types : List DataDecl) (t : Ty) → (Ty → List Binder) → List Binder
binders-at types t f = f t

pub wild_binds : (agreed : LaidOut) (t : Ty) (at : ℕ) (words : List ℕ) (old : Sheet) → BindsPattern agreed t (Wild at) words old old []
wild_binds agreed t at words old = λ plan of all count. none_bound plan (Wild at) t words old (ap (λ (f : Ty → List Binder). f t) (fold-Wild (Ty → List Binder) (binders_step plan.program.types) at)) (λ v. bindings-Wild v at)

pub num_binds : (agreed : LaidOut) (t : Ty) (at n : ℕ) (words : List ℕ) (old : Sheet) → BindsPattern agreed t (Num at n) words old old []
num_binds agreed t at n words old = λ plan of all count. none_bound plan (Num at n) t words old (ap (λ (f : Ty → List Binder). f t) (fold-Num (Ty → List Binder) (binders_step plan.program.types) at n)) (λ v. bindings-Num v at n)

-- a variable has the value's own slots
pub var_binds : (agreed : LaidOut) (t : Ty) (at x : ℕ) (words : List ℕ) (old : Sheet) → BindsPattern agreed t (Var at x) words old old (record { var = x; ty = t; slots = words } ∷ [])
var_binds agreed t at x words old = λ plan of all count. record {
  adds = Adds-refl plan old;
  scope = sym (ap (λ (f : Ty → List Binder). f t) (fold-Var (Ty → List Binder) (binders_step plan.program.types) at x));
  given = (all, count, tt);
  origin = λ y o. elim o [ inl h ↦ inr h | inr h ↦ absurd h ];
  runs = λ clean v m. nothing plan old (binding_bound plan.program.types plan.layouts t (Var at x)) (λ s m. IsGood m × Rep plan m clean t v (slots_at s words)) (λ s m. Holds plan clean s m (record { var = x; ty = t; slots = words } ∷ []) (bindings (Var at x) v))
      (λ s m pre. subst (λ bs. Holds plan clean s m (record { var = x; ty = t; slots = words } ∷ []) bs) (sym (bindings-Var v at x)) (refl, pre.1, tt));
}

-- a field without variables
field_none : (agreed : LaidOut) (t leaf : ℕ) (words : List ℕ) (sub : Pat) (field : Ty) (i : ℕ) (old : Sheet) → BindsPattern agreed field sub words old old [] → ((plan : Plan) → (binders plan.program.types sub field ≡ []) × ((v : Value) → bindings sub v ≡ []))
    → BindsField agreed t leaf words sub field i old old []
field_none agreed t leaf words sub field i old b none = λ plan of all count.
    let n = none plan in
    record {
      adds = Adds-refl plan old;
      is_scope = sym n.0;
      given = tt;
      origin = λ x o. absurd o;
      runs = λ clean v bs layout is_layout is_leaf parts.
          nothing plan old (mend_at plan.layouts t leaf (i ∷ []) + binding_bound plan.program.types plan.layouts field sub) (λ s m. IsGood m × Rep plan m clean (Named t) v (slots_at s words)) (λ s m. Holds plan clean s m [] bs) (λ s m pre. subst (λ l. Holds plan clean s m [] l) (sym (parts.3 ∙ n.1 parts.0)) tt);
    }

pub unbound_binds_at : (agreed : LaidOut) (t : Ty) (pat : Pat) (words : List ℕ) (old : Sheet) → is_unbound pat ≡ true → BindsPattern agreed t pat words old old []
unbound_binds_at agreed t pat words old none = λ plan of all count. let n = unbound_binds pat none in none_bound plan pat t words old (n.0 plan.program.types t) n.1

pub field_unbound : (agreed : LaidOut) (t leaf : ℕ) (words : List ℕ) (sub : Pat) (field : Ty) (i : ℕ) (old : Sheet) → is_unbound sub ≡ true → BindsField agreed t leaf words sub field i old old []
field_unbound agreed t leaf words sub field i old none = let n = unbound_binds sub none in field_none agreed t leaf words sub field i old (unbound_binds_at agreed field sub words old none) (λ plan. (n.0 plan.program.types field, n.1))

-- a field that is fetched, and then bound
pub field_binds : (agreed : LaidOut) (t leaf : ℕ) (words : List ℕ) (sub : Pat) (field : Ty) (i : ℕ) (old mid new : Sheet) (slots : List ℕ) (bound : List Local)
    → FetchesPart agreed t leaf (i ∷ []) field words old mid slots → BindsPattern agreed field sub slots mid new bound → BindsField agreed t leaf words sub field i old new bound
field_binds agreed t leaf words sub field i old mid new slots bound fetches binds = λ plan of all count.
    let g = fetches plan of all count in
    let b = binds plan of g.given g.count in
    record {
      adds = Adds-trans plan old mid new g.adds b.adds;
      is_scope = b.scope;
      given = b.given;
      origin = λ x o. elim (b.origin x o) [ inl h ↦ (let m = g.adds.more in inl (omega (arith, h, m))) | inr h ↦ g.origin x h ];
      runs = λ clean v bs layout is_layout is_leaf parts.
          let Pre : List ℕ → Memory → Type 0 = λ s m. IsGood m × Rep plan m clean (Named t) v (slots_at s words) in
          let Part : List ℕ → Memory → Type 0 = λ s m. Rep plan m clean field parts.0 (slots_at s slots) in
          let Mid : List ℕ → Memory → Type 0 = λ s m. IsGood m × Part s m in
          let Post : List ℕ → Memory → Type 0 = λ s m. Holds plan clean s m bound bs in
          let k1 = mend_at plan.layouts t leaf (i ∷ []) in
          let k2 = binding_bound plan.program.types plan.layouts field sub in
          let framed = piece_framed plan old.slots old mid k1 (λ s m. IsGood m) Pre Part (λ s s' m k x. x) (g.runs clean v parts.0 layout is_layout is_leaf parts.1) in
          let first = piece_less plan old.slots old.slots old mid k1 k1 (λ s m. IsGood m × Pre s m) Pre Mid Mid (omega arith) (omega arith) (λ s m x. (x.0, x)) (λ s m x. x) framed in
          let second = piece_less plan mid.slots old.slots mid new k2 k2 Mid Mid (λ s m. Holds plan clean s m bound (bindings sub parts.0)) Post g.adds.more (omega arith) (λ s m x. x) (λ s m x. subst (λ l. Holds plan clean s m bound l) (sym parts.3) x) (b.runs clean parts.0 parts.2) in
          pieces plan old.slots old mid new k1 k2 Pre Mid Post first second;
    }

-- no field
pub fields_none : (agreed : LaidOut) (t leaf : ℕ) (words : List ℕ) (fields : List Ty) (i : ℕ) (old : Sheet) → BindsFields agreed t leaf words [] fields i old old []
fields_none agreed t leaf words fields i old = λ plan of all count. record {
  adds = Adds-refl plan old;
  is_scope = refl;
  given = tt;
  origin = λ x o. absurd o;
  runs = λ clean v bs layout is_layout is_leaf parts.
      nothing plan old (mends_from plan.layouts t leaf [] i + fields_bound plan [] fields) (λ s m. IsGood m × Rep plan m clean (Named t) v (slots_at s words)) (λ s m. Holds plan clean s m [] bs) (λ s m pre. subst (λ l. Holds plan clean s m [] l) (sym parts.3) tt);
}

pub scope-append : (ls ks : List Local) → scope_of (ls ++ ks) ≡ scope_of ls ++ scope_of ks
scope-append [] ks = refl
scope-append (l ∷ ls) ks = ap (λ r. binder_in l ∷ r) (scope-append ls ks)

-- what is held in slots that are kept
pub kept : (plan : Plan) (n : ℕ) (s s' : List ℕ) (m : Memory) → Keeps n s s' → (clean : Bool) (ls : List Local) (cs : List Binding) → AreGiven plan n ls → Holds plan clean s m ls cs → Holds plan clean s' m ls cs
kept plan n s s' m k clean [] [] given h = tt
kept plan n s s' m k clean [] (c ∷ cs) given h = h
kept plan n s s' m k clean (l ∷ ls) [] given h = h
kept plan n s s' m k clean (l ∷ ls) (c ∷ cs) given h = (h.0, subst (λ ws. Rep plan m clean l.ty c.value ws) (sym (slots_at-kept n s s' l.slots given.0 k)) h.1, kept plan n s s' m k clean ls cs given.2 h.2)

looks-append : (look : Ty → ℕ) (ps qs : List TypedPosition) → looks_with look (ps ++ qs) ≡ looks_with look ps + looks_with look qs
looks-append look [] qs = omega arith
looks-append look (p ∷ ps) qs = let h = looks-append look ps qs in omega (arith, h)

looks-below : (look : Ty → ℕ) (i : ℕ) (ps : List TypedPosition) → looks_with look (map (place_below i) ps) ≡ looks_with look ps
looks-below look i [] = refl
looks-below look i (p ∷ ps) = ap (λ n. look p.ty + n) (looks-below look i ps)

-- where the fields are counted from does not matter
looks-from : (look : Ty → ℕ) (ps : List (Ty → List TypedPosition)) (ts : List Ty) (i j : ℕ) → looks_with look (places_below ps ts i) ≡ looks_with look (places_below ps ts j)
looks-from look [] ts i j = refl
looks-from look (p ∷ ps) [] i j = refl
looks-from look (p ∷ ps) (t ∷ ts) i j =
    let a = looks-append look (map (place_below i) (p t)) (places_below ps ts (i + 1)) in
    let b = looks-append look (map (place_below j) (p t)) (places_below ps ts (j + 1)) in
    let c = looks-below look i (p t) in
    let d = looks-below look j (p t) in
    let e = looks-from look ps ts (i + 1) (j + 1) in omega (arith, a, b, c, d, e)

pub fields_more : (plan : Plan) (sub : Pat) (subs : List Pat) (field : Ty) (fields : List Ty) → fields_bound plan (sub ∷ subs) (field ∷ fields) ≡ binding_bound plan.program.types plan.layouts field sub + fields_bound plan subs fields
fields_more plan sub subs field fields =
    let look = binding_look plan.layouts in
    let ps = places_in plan.program.types sub field in
    let more = places_below (map (places_in plan.program.types) subs) fields (0 + 1) in
    let a = looks-append look (map (place_below 0) ps) more in
    let b = looks-below look 0 ps in
    let c = looks-from look (map (places_in plan.program.types) subs) fields (0 + 1) 0 in omega (arith, a, b, c)

-- a field, and the others behind it
pub fields_binds : (agreed : LaidOut) (t leaf : ℕ) (words : List ℕ) (sub : Pat) (subs : List Pat) (field : Ty) (fields : List Ty) (i : ℕ) (old mid new : Sheet) (bound more : List Local)
    → BindsField agreed t leaf words sub field i old mid bound → BindsFields agreed t leaf words subs fields (i + 1) mid new more → BindsFields agreed t leaf words (sub ∷ subs) (field ∷ fields) i old new (bound ++ more)
fields_binds agreed t leaf words sub subs field fields i old mid new bound more first others = λ plan of all count.
    let f = first plan of all count in
    let o = others plan of (AllBelow-more old.slots mid.slots words f.adds.more all) count in
    record {
      adds = Adds-trans plan old mid new f.adds o.adds;
      is_scope = scope-append bound more ∙ ap (λ l. l ++ scope_of more) f.is_scope ∙ ap (λ l. binders plan.program.types sub field ++ l) o.is_scope;
      given = AreGiven-append plan new.slots bound more (AreGiven-more plan mid.slots new.slots bound o.adds.more f.given) o.given;
      origin = λ x h. elim (IsOfLocal-append x bound more h) [
        | inl a ↦ f.origin x a
        | inr a ↦ elim (o.origin x a) [ inl le ↦ (let m = f.adds.more in inl (omega (arith, le, m))) | inr w ↦ inr w ]
      ];
      runs = λ clean v bs layout is_layout is_leaf parts. go plan f o all clean v bs layout is_layout is_leaf parts.0 parts.1 parts.2 parts.3;
    }
  where
    shifted : (i j : ℕ) → i + suc j ≡ i + 1 + j
    shifted i j = omega arith

    go : (plan : Plan) (f : BindsParts plan (mend_at plan.layouts t leaf (i ∷ []) + binding_bound plan.program.types plan.layouts field sub) t leaf words (binders plan.program.types sub field) old mid bound (FieldMatches sub i))
        (o : BindsParts plan (mends_from plan.layouts t leaf subs (i + 1) + fields_bound plan subs fields) t leaf words (all_binders (map (binders plan.program.types) subs) fields) mid new more (FieldsMatch subs (i + 1)))
        → AllBelow old.slots words → (clean : Bool) (v : Value) (bs : List Binding) (layout : Layout) → layout_of plan.layouts t ≡ Some layout → leaf_of layout v ≡ Some leaf
        → (vs : List Value) → ((j : ℕ) → part_at v ((i + j) ∷ []) ≡ slice_get vs j) → all_pass (map matches_of (sub ∷ subs)) vs ≡ true → bs ≡ all_bindings (map bindings (sub ∷ subs)) vs
        → CodePiece plan old.slots old new Nowhere (mends_from plan.layouts t leaf (sub ∷ subs) i + fields_bound plan (sub ∷ subs) (field ∷ fields)) (λ s m. IsGood m × Rep plan m clean (Named t) v (slots_at s words)) (AtEnd new (λ s m. Holds plan clean s m (bound ++ more) bs))
    go plan f o all clean v bs layout is_layout is_leaf [] at pass is = absurd (false≢true pass)
    go plan f o all clean v bs layout is_layout is_leaf (u ∷ vs) at pass is =
        let b = and_parts (matches_of sub u) (all_pass (map matches_of subs) vs) pass in
        let z : i ≡ i + 0 = omega arith in
        let here : part_at v (i ∷ []) ≡ Some u = ap (λ n. part_at v (n ∷ [])) z ∙ at 0 in
        let Pre : List ℕ → Memory → Type 0 = λ s m. IsGood m × Rep plan m clean (Named t) v (slots_at s words) in
        let bs1 = bindings sub u in
        let bs2 = all_bindings (map bindings subs) vs in
        let Has1 : List ℕ → Memory → Type 0 = λ s m. Holds plan clean s m bound bs1 in
        let Has2 : List ℕ → Memory → Type 0 = λ s m. Holds plan clean s m more bs2 in
        let keep_pre : (s s' : List ℕ) (m : Memory) → Keeps old.slots s s' → Pre s m → Pre s' m = λ s s' m k x. (x.0, subst (λ ws. Rep plan m clean (Named t) v ws) (sym (slots_at-kept old.slots s s' words all k)) x.1) in
        let k1 = mend_at plan.layouts t leaf (i ∷ []) + binding_bound plan.program.types plan.layouts field sub in
        let k2 = mends_from plan.layouts t leaf subs (i + 1) + fields_bound plan subs fields in
        let Post : List ℕ → Memory → Type 0 = λ s m. Holds plan clean s m (bound ++ more) bs in
        let Mid : List ℕ → Memory → Type 0 = λ s m. Has1 s m × Pre s m in
        let framed = piece_framed plan old.slots old mid k1 Pre Pre Has1 keep_pre (f.runs clean v bs1 layout is_layout is_leaf (u, here, b.0, refl)) in
        let first = piece_less plan old.slots old.slots old mid k1 k1 (λ s m. Pre s m × Pre s m) Pre (λ s m. Pre s m × Has1 s m) Mid (omega arith) (omega arith) (λ s m x. (x, x)) (λ s m x. (x.1, x.0)) framed in
        let framed2 = piece_framed plan mid.slots mid new k2 Has1 Pre Has2 (λ s s' m k x. kept plan mid.slots s s' m k clean bound bs1 f.given x)
        (o.runs clean v bs2 layout is_layout is_leaf (vs, (λ j. ap (λ n. part_at v (n ∷ [])) (sym (shifted i j)) ∙ at (suc j)), b.1, refl)) in
        let second = piece_less plan mid.slots old.slots mid new k2 k2 Mid Mid (λ s m. Has1 s m × Has2 s m) Post f.adds.more (omega arith) (λ s m x. x) (λ s m x. subst (λ l. Holds plan clean s m (bound ++ more) l) (sym is) (Holds-append plan clean s m bound more bs1 bs2 x.0 x.1)) framed2 in
        let most = fields_more plan sub subs field fields in
        piece_less plan old.slots old.slots old new (k1 + k2) (mends_from plan.layouts t leaf (sub ∷ subs) i + fields_bound plan (sub ∷ subs) (field ∷ fields)) Pre Pre Post Post (omega arith) (omega (arith, most)) (λ s m x. x) (λ s m x. x)
        (pieces plan old.slots old mid new k1 k2 Pre Mid Post first second)

mends_more : (layouts : List Layout) (t leaf : ℕ) (subs : List Pat) (i : ℕ) → mends_at layouts t leaf [] i + mends_from layouts t leaf subs i ≡ mends_at layouts t leaf [] (i + length subs)
mends_more layouts t leaf [] i = let z : i + 0 ≡ i = omega arith in (let e = ap (mends_at layouts t leaf []) z in omega (arith, e))
mends_more layouts t leaf (p ∷ ps) i =
    let up : suc i ≡ i + 1 = omega arith in
    let z : i + 1 + length ps ≡ i + suc (length ps) = omega arith in
    let h = mends_more layouts t leaf ps (i + 1) in
    let a = ap (mends_at layouts t leaf []) up in
    let b = ap (mends_at layouts t leaf []) z in omega (arith, h, a, b)

pub look_more : (layouts : List Layout) (t : ℕ) → rebuilding_bound layouts (Named t) ≤ binding_look layouts (Named t)
look_more layouts t = go (takes_none_apart layouts t)
  where
    go : (u : Bool) → (if u then 0 else mend_of layouts t) ≤ (if u then 0 else depth_of layouts (Named t) + mend_of layouts t)
    go true = omega arith
    go false = omega arith

-- the bound at a constructor
pub con_bound : (plan : Plan) (t : Ty) (at : ℕ) (c : ConRef) (subs : List Pat) → binding_bound plan.program.types plan.layouts t (Con at c subs) ≡ binding_look plan.layouts t + fields_bound plan subs (field_types plan.program.types c)
con_bound plan t at c subs = ap (λ (f : Ty → List TypedPosition). looks_with (binding_look plan.layouts) (f t)) (fold-Con (Ty → List TypedPosition) (places_step plan.program.types) at c subs)

-- a constructor
pub con_binds : (agreed : LaidOut) (t : Ty) (at : ℕ) (c : ConRef) (subs : List Pat) (leaf : ℕ) (words : List ℕ) (old new : Sheet) (bound : List Local) → MendsIn agreed → t ≡ Named c.ty → IsOnlyLeaf agreed c.ty (Con at c subs) leaf
    → BindsFields agreed c.ty leaf words subs (field_types agreed.covered.program.types c) 0 old new bound → BindsPattern agreed t (Con at c subs) words old new bound
con_binds agreed t at c subs leaf words old new bound mends named only fields = λ plan of all count.
    let types_is : field_types agreed.covered.program.types c ≡ field_types plan.program.types c = ap (λ (g : Rattle.rb_core.specs.declared.program.Program.Program). field_types g.types c) (sym of.program) in
    let f = fields plan of all (count ∙ ap (words_needed plan) named) in
    let sum = con_bound plan t at c subs in
    let look = ap (binding_look plan.layouts) named in
    let some = ap (fields_bound plan subs) types_is in
    let a = mends_more plan.layouts c.ty leaf subs 0 in
    let within = mends_within plan.layouts c.ty (mends plan of c.ty) leaf (0 + length subs) in
    let more = look_more plan.layouts c.ty in
    let le : mends_from plan.layouts c.ty leaf subs 0 + fields_bound plan subs (field_types agreed.covered.program.types c) ≤ binding_bound plan.program.types plan.layouts t (Con at c subs) = omega (arith, sum, look, some, a, within, more) in
    record {
      adds = f.adds;
      scope = f.is_scope ∙ ap (λ (g : Rattle.rb_core.specs.declared.program.Program.Program). all_binders (map (binders plan.program.types) subs) (field_types g.types c)) (sym of.program)
          ∙ sym (ap (λ (b : Ty → List Binder). b t) (fold-Con (Ty → List Binder) (binders_step plan.program.types) at c subs));
      given = f.given;
      origin = f.origin;
      runs = λ clean v matches.
          let Pre : List ℕ → Memory → Type 0 = λ s m. IsGood m × Rep plan m clean t v (slots_at s words) in
          let Post : List ℕ → Memory → Type 0 = λ s m. Holds plan clean s m bound (bindings (Con at c subs) v) in
          piece_less plan old.slots old.slots old new (mends_from plan.layouts c.ty leaf subs 0 + fields_bound plan subs (field_types agreed.covered.program.types c)) (binding_bound plan.program.types plan.layouts t (Con at c subs)) Pre Pre Post Post (omega arith) le (λ s m x. x) (λ s m x. x)
          (go plan of f clean v matches (begins_with c.con (map matches_of subs) (out-Value v) (sym (matches-Con v at c subs) ∙ matches)));
    }
  where
    go : (plan : Plan) (of : IsPlanOf agreed plan)
        (f : BindsParts plan (mends_from plan.layouts c.ty leaf subs 0 + fields_bound plan subs (field_types agreed.covered.program.types c)) c.ty leaf words (all_binders (map (binders plan.program.types) subs) (field_types agreed.covered.program.types c)) old new bound (FieldsMatch subs 0)) (clean : Bool) (v : Value) → matches_of (Con at c subs) v ≡ true
        → (us : List Value) × (out-Value v ≡ V.Con c.con us) × (all_pass (map matches_of subs) us ≡ true)
        → CodePiece plan old.slots old new Nowhere (mends_from plan.layouts c.ty leaf subs 0 + fields_bound plan subs (field_types agreed.covered.program.types c)) (λ s m. IsGood m × Rep plan m clean t v (slots_at s words)) (AtEnd new (λ s m. Holds plan clean s m bound (bindings (Con at c subs) v)))
    go plan of f clean v matches (us, is, pass) = record {
      adds = f.adds;
      low = omega arith;
      runs = λ final callee next law agrees s w long pre.
          let rep = subst (λ u. Rep plan w.memory clean u v (slots_at s words)) named pre.1 in
          let b = (opened plan.program.types plan.layouts w.memory clean rep).made in
          let start : 0 + b.number ≡ b.number = omega arith in
          let matched = leaf_matches b.layout.leaves v 0 b.number b.leaf b.is_leaf b.number start b.is_number in
          let found : leaf_within (layout_of agreed.layouts c.ty) b.number ≡ Some b.leaf = ap (λ o. leaf_within o b.number) (sym (ap (λ ls. layout_of ls c.ty) of.layouts) ∙ b.is_layout) ∙ b.is_number in
          let lt = slice_get_within b.layout.leaves b.number b.leaf b.is_number in
          let n : leaf_count agreed c.ty ≡ length b.layout.leaves = ap layout_leaf_count (sym (ap (λ ls. layout_of ls c.ty) of.layouts) ∙ b.is_layout) in
          let is_leaf : b.number ≡ leaf = elim (only b.number (omega (arith, lt, n))) [ inl same ↦ same | inr out ↦ absurd (out b.leaf found v matched matches) ] in
          let parts : FieldsMatch subs 0 v (bindings (Con at c subs) v) = (us, (λ j. let z : 0 + j ≡ j = omega arith in ap (λ l. slice_get (subs_in l) (0 + j)) is ∙ ap (slice_get us) z), pass, bindings-Con v at c subs ∙ ap (layer_bindings (map bindings subs)) is) in
          (f.runs clean v (bindings (Con at c subs) v) b.layout b.is_layout (b.is_leaf ∙ ap Some is_leaf) parts).runs final callee next law agrees s w long (pre.0, rep);
    }
