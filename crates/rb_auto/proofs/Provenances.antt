-- Fields lead from a type to what is open in a typed provenance of it.
use Rattle.std.proofs.Common.{◌≡◌, ◌==◌, ℕ, zero, suc, ◌+◌, ◌⊎◌, inl, inr, List, [], ◌∷◌, ◌++◌, length, map, Option, Some, None, Ok, Err, refl, sym, ap, subst, ◌∙◌}
use Rattle.std.specs.Prelude.{slice_get, unwrap_or}
use Rattle.std.specs.Result.{result_err}
use Rattle.std.proofs.lemmas.Option.{same_Some}
use Rattle.rb_core.specs.declared.types.Con.{Con}
use Rattle.rb_core.specs.declared.types.ConRef.{ConRef}
use Rattle.rb_core.specs.declared.types.DataDecl.{DataDecl}
use Rattle.rb_core.specs.declared.types.Ty.{Ty}
use Rattle.rb_core.specs.declared.types.Ty.TheVariants.{Int, Named}
use Rattle.rb_core.specs.declared.typing.TypeFault.{TypeFault}
use Rattle.rb_core.specs.declared.program.Param.{Param}
use Rattle.rb_core.specs.declared.layout_decl.LayoutDecl.{LayoutDecl}
use Rattle.rb_core.specs.declared.pattern.Pat.{Pat, out-Pat}
use Rattle.rb_core.specs.declared.pattern.Pat as Q
use Rattle.rb_core.specs.declared.pattern.Pat.TheVariants as X
use Rattle.rb_core.specs.declared.pattern.Pat.TheOpen as P
use Rattle.rb_core.specs.declared.pattern.Pat.TheOpen.{Pat-F}
use Rattle.rb_core.specs.Layouts.{WrittenLeaf, leaves, provenances}
use Rattle.rb_core.specs.Values.{fields_in, fields_of, fields_of_con}
use Rattle.rb_core.specs.Typing.{PatternRule, Typing, also_bound, distinct_binders, field_types, field_params, pattern_binders, pattern_params, pattern_step, same_type, subpatterns}
use Rattle.rb_core.specs.TypedPrograms.{first_fault, layout_fault, provenance_fault}
use Rattle.rb_core.proofs.PatternLaws.{fold-Wild, fold-Var, fold-Num, fold-Con, Each, Cases, induction}
use Rattle.rb_core.proofs.TypingAnswers.{came, constructed, same_type-is}
use Rattle.rb_layout.specs.Positions.{Open, below, opens_below, opens_of, opens_step, open_positions, root_type, types_or_none}
use Rattle.rb_layout.specs.Flattening.{type_at}
use Rattle.rb_layout.specs.Cycles.{IsChain}
use Rattle.rb_layout.proofs.OpenPositions.{type-open}
use Rattle.rb_auto.specs.Fields.{HasField, cons_in}
use Rattle.rb_auto.proofs.Fielding.{in-either}
use Rattle.rb_auto.proofs.Leaves.{get-map, map-get}

-- A field of a constructor ---------------------------------------------------------------------------------

con-field : (con : Option Con) (n : ℕ) (ty : Ty) → slice_get (types_or_none (fields_of_con con)) n ≡ Some ty → (c : Con) × (con ≡ Some c) × (slice_get c.fields n ≡ Some ty)
con-field None n ty e = absurd cc
con-field (Some c) n ty e = (c, refl, e)

field-at : (d : Option DataDecl) (k n : ℕ) (ty : Ty) → slice_get (types_or_none (fields_in d k)) n ≡ Some ty
    → (c : Con) × (slice_get (cons_in d) k ≡ Some c) × (slice_get c.fields n ≡ Some ty)
field-at None k n ty e = absurd cc
field-at (Some d) k n ty e = con-field (slice_get d.cons k) n ty e

same-types : (tys : Option (List Ty)) → unwrap_or tys [] ≡ types_or_none tys
same-types None = refl
same-types (Some tys) = refl

module _ (types : List DataDecl) where
  is-field : (c : ConRef) (n s : ℕ) → slice_get (types_or_none (fields_of types c)) n ≡ Some (Named s) → HasField types c.ty s
  is-field c n s e =
      let f = field-at (slice_get types c.ty) c.con n (Named s) e in
      record { con_number = c.con; con = f.0; field = n; is_con = f.1; is_field = f.2 }

  abbrev Chain : ℕ → ℕ → Type 0
  Chain t s = (us : List ℕ) × IsChain (HasField types) t us s

  -- fields lead from each type to the other, or they are the same
  abbrev Reaches : Ty → Ty → Type 0
  Reaches a b = (a ≡ b) ⊎ ((t : ℕ) × (a ≡ Named t) × ((s : ℕ) → b ≡ Named s → Chain t s))

  abbrev OpensReach : Pat → Type 0
  OpensReach p = (ty : Ty) (bound : List Param) → pattern_params types p ty ≡ Ok bound → (k : ℕ) (o : Open) → slice_get (opens_of types p ty) k ≡ Some o → Reaches ty o.ty

  -- what is open below a constructor is reached from one of its fields
  abbrev FromField : List Ty → Ty → Type 0
  FromField ts b = (n : ℕ) × (ty : Ty) × (slice_get ts n ≡ Some ty) × Reaches ty b

  next-field : (t : Ty) (ts : List Ty) (b : Ty) → FromField ts b → FromField (t ∷ ts) b
  next-field t ts b h = (suc h.0, h.1, h.2, h.3)

  from-field : (ps : List Pat) → Each OpensReach ps → (ts : List Ty) (i : ℕ) (bound : List Param) → subpatterns (map (pattern_params types) ps) ts ≡ Ok bound
      → (k : ℕ) (o : Open) → slice_get (opens_below (map (opens_of types) ps) ts i) k ≡ Some o → FromField ts o.ty
  from-field [] each ts i bound typed k o e = absurd cc
  from-field (p ∷ ps) each [] i bound typed k o e = absurd cc
  from-field (p ∷ ps) each (t ∷ ts) i bound typed k o e =
      let first = came (pattern_params types p t) (λ bs. also_bound bs (subpatterns (map (pattern_params types) ps) ts)) bound typed in
      let rest = came (subpatterns (map (pattern_params types) ps) ts) (λ qs. Ok (first.from ++ qs)) bound first.then_is in
      elim (in-either o (map (below i) (opens_of types p t)) (opens_below (map (opens_of types) ps) ts (i + 1)) (k, e)) [
        | inl h ↦
            (let m = get-map (below i) (opens_of types p t) h.0 o h.1 in
            (0, t, refl, subst (λ b. Reaches t b) (sym (ap (λ (x : Open). x.ty) m.2)) (each.0 t first.from first.first_is h.0 m.0 m.1)))
        | inr h ↦ next-field t ts o.ty (from-field ps each.1 ts (i + 1) rest.from rest.first_is h.0 o h.1)
      ]

  field-chain : (c : ConRef) (n : ℕ) (ty b : Ty) (s : ℕ) → slice_get (types_or_none (fields_of types c)) n ≡ Some ty → b ≡ Named s → Reaches ty b → Chain c.ty s
  field-chain c n ty b s at is (inl same) = ([], is-field c n s (at ∙ ap Some (same ∙ is)))
  field-chain c n ty b s at is (inr h) = let rest = h.2 s is in (h.0 ∷ rest.0, (is-field c n h.0 (at ∙ ap Some h.1), rest.1))

  con-chain : (at : ℕ) (c : ConRef) (ps : List Pat) → Each OpensReach ps → (ty : Ty) (bound : List Param) → pattern_params types (Q.Con at c ps) ty ≡ Ok bound
      → (k : ℕ) (o : Open) → slice_get (opens_below (map (opens_of types) ps) (types_or_none (fields_of types c)) 0) k ≡ Some o
      → (ty ≡ Named c.ty) × ((s : ℕ) → o.ty ≡ Named s → Chain c.ty s)
  con-chain at c ps each ty bound typed k o e =
      let rules = map (pattern_params types) ps in
      let step : pattern_step types (P.Con at c rules) ty ≡ Ok bound = sym (ap (λ (f : PatternRule). f ty) (fold-Con PatternRule (pattern_step types) at c ps)) ∙ typed in
      let whole = constructed (same_type ty (Named c.ty)) (field_params at rules (field_types types c)) _ bound step in
      let subs = constructed (length rules == length (field_types types c)) (subpatterns rules (field_types types c)) _ bound whole.1 in
      let fields : subpatterns rules (types_or_none (fields_of types c)) ≡ Ok bound = ap (subpatterns rules) (sym (same-types (fields_of types c))) ∙ subs.1 in
      let from = from-field ps each (types_or_none (fields_of types c)) 0 bound fields k o e in
      (same_type-is ty (Named c.ty) whole.0, (λ s is. field-chain c from.0 from.1 o.ty s from.2 is from.3))

  abbrev Opens : Type 0
  Opens = Ty → List Open

  alone : (os : List Open) (ty : Ty) (k : ℕ) (o : Open) → os ≡ record { path = []; ty = ty } ∷ [] → slice_get os k ≡ Some o → ty ≡ o.ty
  alone os ty k o is e = one k (ap (λ (xs : List Open). slice_get xs k) (sym is) ∙ e)
    where
      one : (j : ℕ) → slice_get (record { path = []; ty = ty } ∷ []) j ≡ Some o → ty ≡ o.ty
      one zero h = ap (λ (x : Open). x.ty) (same_Some (record { path = []; ty = ty }) o h)
      one (suc j) h = absurd cc

  reach-cases : Cases OpensReach
  reach-cases = record {
    wild = λ at ty bound typed k o e. inl (alone (opens_of types (Q.Wild at) ty) ty k o (ap (λ (f : Opens). f ty) (fold-Wild Opens (opens_step types) at)) e);
    var = λ at x ty bound typed k o e. inl (alone (opens_of types (Q.Var at x) ty) ty k o (ap (λ (f : Opens). f ty) (fold-Var Opens (opens_step types) at x)) e);
    num = λ at n ty bound typed k o e. let none = ap (λ (f : Opens). slice_get (f ty) k) (sym (fold-Num Opens (opens_step types) at n)) ∙ e in absurd cc;
    con = λ at c ps each ty bound typed k o e.
        let r = con-chain at c ps each ty bound typed k o (ap (λ (f : Opens). slice_get (f ty) k) (sym (fold-Con Opens (opens_step types) at c ps)) ∙ e) in
        inr (c.ty, r.0, r.1);
  }

  opens-reach : (p : Pat) → OpensReach p
  opens-reach = induction OpensReach reach-cases

  each-reach : (ps : List Pat) → Each OpensReach ps
  each-reach [] = tt
  each-reach (p ∷ ps) = (opens-reach p, each-reach ps)

  -- Whole provenances ---------------------------------------------------------------------------------------

  abbrev RootReaches : Pat → Type 0
  RootReaches p = (t : ℕ) (bound : List Param) → pattern_params types p (Named t) ≡ Ok bound → (k : ℕ) (o : Open) → slice_get (open_positions types p) k ≡ Some o
      → (s : ℕ) → o.ty ≡ Named s → Chain t s

  no-root : (p : Pat) (l : Pat-F Pat) (k : ℕ) (o : Open) (s : ℕ) → out-Pat p ≡ l → root_type l ≡ Int 64
      → opens_of types p (root_type (out-Pat p)) ≡ record { path = []; ty = root_type (out-Pat p) } ∷ []
      → slice_get (open_positions types p) k ≡ Some o → o.ty ≡ Named s → ⊥
  no-root p l k o s out root opens e is =
      let ty = alone (open_positions types p) (root_type (out-Pat p)) k o opens e in
      let int : Int 64 ≡ Named s = sym root ∙ ap root_type (sym out) ∙ ty ∙ is in
      absurd cc

  same-named : (a b : ℕ) → Named a ≡ Named b → a ≡ b
  same-named a b e = cc

  root-cases : Cases RootReaches
  root-cases = record {
    wild = λ at t bound typed k o e s is.
        absurd (no-root (Q.Wild at) (P.Wild at) k o s (X.outs-Wild at) refl (ap (λ (f : Opens). f (root_type (out-Pat (Q.Wild at)))) (fold-Wild Opens (opens_step types) at)) e is);
    var = λ at x t bound typed k o e s is.
        absurd (no-root (Q.Var at x) (P.Var at x) k o s (X.outs-Var at x) refl (ap (λ (f : Opens). f (root_type (out-Pat (Q.Var at x)))) (fold-Var Opens (opens_step types) at x)) e is);
    num = λ at n t bound typed k o e s is.
        let none = ap (λ (f : Opens). slice_get (f (root_type (out-Pat (Q.Num at n)))) k) (sym (fold-Num Opens (opens_step types) at n)) ∙ e in absurd cc;
    con = λ at c ps each t bound typed k o e s is.
        let r = con-chain at c ps (each-reach ps) (Named t) bound typed k o
        (ap (λ (f : Opens). slice_get (f (root_type (out-Pat (Q.Con at c ps)))) k) (sym (fold-Con Opens (opens_step types) at c ps)) ∙ e) in
        subst (λ n. Chain n s) (sym (same-named t c.ty r.0)) (r.1 s is);
  }

  root-reaches : (p : Pat) → RootReaches p
  root-reaches = induction RootReaches root-cases

  no-error : {A : Type 0} (r : Typing A) → result_err r ≡ None → (a : A) × (r ≡ Ok a)
  no-error (Ok a) e = (a, refl)
  no-error (Err f) e = absurd cc

  pub no-fault : (fs : List (Option TypeFault)) (k : ℕ) (f : Option TypeFault) → first_fault fs ≡ None → slice_get fs k ≡ Some f → f ≡ None
  no-fault [] k f none e = absurd cc
  no-fault (None ∷ fs) zero f none e = sym (same_Some None f e)
  no-fault (None ∷ fs) (suc k) f none e = no-fault fs k f none e
  no-fault (Some x ∷ fs) k f none e = absurd cc

  -- a typed layout's leaf has open what fields lead to
  pub typed-reaches : (d : LayoutDecl) → layout_fault types d ≡ None → (n : ℕ) (w : WrittenLeaf) → slice_get (leaves d.tree) n ≡ Some w
      → (path : List ℕ) (s : ℕ) → type_at (open_positions types w.provenance) path ≡ Some (Named s) → Chain d.ty s
  typed-reaches d typed n w leaf path s at =
      let prov = map-get (λ (l : WrittenLeaf). l.provenance) (leaves d.tree) n w leaf in
      let fault = map-get (provenance_fault types d.ty) (provenances d.tree) n w.provenance prov in
      let none = no-fault (map (provenance_fault types d.ty) (provenances d.tree)) n (provenance_fault types d.ty w.provenance) typed fault in
      let ok = no-error (pattern_binders types w.provenance (Named d.ty)) none in
      let params = came (pattern_params types w.provenance (Named d.ty)) distinct_binders ok.0 ok.1 in
      let o = type-open (open_positions types w.provenance) path (Named s) at in
      root-reaches w.provenance d.ty params.from params.first_is o.0 o.1 o.2 s o.4
