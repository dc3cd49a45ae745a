-- What parts say of their problem.
use Rattle.std.proofs.Common.{◌≡◌, suc, ◌+◌, ◌<◌, ◌≤◌, List, [], ◌∷◌, ◌++◌, length, true, Option, Some, None, refl, sym, ap, ◌∙◌, arith, subst}
use Rattle.std.proofs.lemmas.Bool.{false≢true}
use Rattle.std.proofs.lemmas.List.{length-append}
use Rattle.rb_core.specs.declared.value.Value.{Value, out-Value}
use Rattle.rb_core.specs.declared.value.Value.TheOpen.{Value-F}
use Rattle.rb_core.specs.declared.types.DataDecl.{DataDecl}
use Rattle.rb_core.specs.declared.types.Ty.{Ty}
use Rattle.rb_core.specs.declared.pattern.Pat.{Pat}
use Rattle.rb_core.specs.Values.{is_of_type}
use Rattle.rb_matrix.specs.declared.matrix.Head.{Head}
use Rattle.rb_matrix.specs.declared.problem.Step.TheVariants.{Front}
use Rattle.rb_matrix.specs.declared.problem.Problem.{Problem}
use Rattle.rb_matrix.specs.declared.problem.Left.TheVariants.{Whole}
use Rattle.rb_matrix.specs.Heads.{any_begins, column_begins, some_head, fields_at}
use Rattle.rb_matrix.specs.FirstHead.{first_head}
use Rattle.rb_matrix.specs.Specialize.{special, defaults}
use Rattle.rb_matrix.specs.Search.{IsTypeIn, AreTypesIn, AreInhabited, RowIsFound, AreUseless}
use Rattle.rb_matrix.specs.inner.Problems.{row_for_parent, step_of, FoundIn, NoneIn, NoneBy, IsPart, IsPartAt, IsSpecialized}
use Rattle.rb_matrix.specs.Signature.{IsAbsent}
use Rattle.rb_matrix.specs.inner.Left.{IsSplit}
use Rattle.rb_matrix.proofs.Laws.{special-length, defaults-length, no-head}
use Rattle.rb_matrix.proofs.Inhabited.{live}
use Rattle.rb_matrix.proofs.Weights.{special-falls, defaults-fall, cheap, part-fewer}
use Rattle.rb_matrix.proofs.Parts.{part-none, part-lost, part-found, fields_at-few, fields_at-live, live-append}
use Rattle.rb_matrix.proofs.Defaults.{rest-lost, rest-none, rest-found}
use Rattle.rb_matrix.proofs.Working.{no-split, part-within}

module _ (types : List DataDecl) where
  -- One part -------------------------------------------------------------------------------------

  module _ (ty : Ty) (ts : List Ty) (p : Problem) (columns : p.tys ≡ ty ∷ ts) where
    at-root : (row : List Pat) → RowIsFound types (ty ∷ ts) p.wanted p.unwanted row → FoundIn types p row
    at-root row r = subst (λ l. RowIsFound types l p.wanted p.unwanted row) (sym columns) r

    none-root : AreUseless types (ty ∷ ts) p.wanted p.unwanted → NoneIn types p
    none-root h = subst (λ l. AreUseless types l p.wanted p.unwanted) (sym columns) h

    columns-length : length p.tys ≡ suc (length ts)
    columns-length = ap (λ l. length l) columns

    module _ (h : Head) (fs : List Ty) (at : fields_at types ty h ≡ Some fs) (c : Problem)
        (tys : c.tys ≡ fs ++ ts) (w : c.wanted ≡ special h (length fs) p.wanted) (u : c.unwanted ≡ special h (length fs) p.unwanted) (long : length p.wanted ≤ length c.wanted) where
      kept : length (special h (length fs) p.wanted) ≡ length p.wanted
      kept = let a = special-length h (length fs) p.wanted in let b = ap (λ l. length l) w in omega (arith, a, b, long)

      found-here : (row : List Pat) → FoundIn types c row → RowIsFound types (fs ++ ts) (special h (length fs) p.wanted) (special h (length fs) p.unwanted) row
      found-here row r = subst (λ l. RowIsFound types (fs ++ ts) (special h (length fs) p.wanted) l row) u
          (subst (λ l. RowIsFound types (fs ++ ts) l c.unwanted row) w (subst (λ l. RowIsFound types l c.wanted c.unwanted row) tys r))

      none-here : NoneIn types c → AreUseless types (fs ++ ts) (special h (length fs) p.wanted) (special h (length fs) p.unwanted)
      none-here r = subst (λ l. AreUseless types (fs ++ ts) (special h (length fs) p.wanted) l) u
          (subst (λ l. AreUseless types (fs ++ ts) l c.unwanted) w (subst (λ l. AreUseless types l c.wanted c.unwanted) tys r))

      pub part-at : AreInhabited types → AreTypesIn types ts → 1 ≤ some_head (first_head p.wanted) + some_head (first_head p.unwanted)
          → c.steps ≡ p.steps ++ step_of ty h (length fs) ∷ [] → IsPartAt types ty ts p h (Some c)
      part-at i lives stands steps =
          let few = fields_at-few types ty h fs at in let l = ap (λ l. length l) tys in
          let total = length-append fs ts in
          let part : IsPart types p c = record {
            live = subst (AreTypesIn types) (sym tys) (live-append types fs ts (fields_at-live types i ty h fs at) lives);
            step = step_of ty h (length fs);
            steps = steps;
            sound = λ row r. at-root (row_for_parent (step_of ty h (length fs)) row) (part-found types ty ts p.wanted p.unwanted h fs at row kept (found-here row r));
            cheap = cheap types p c (special-falls types h (length fs) p c (length ts) w u stands (omega (arith, few, l, total)) columns-length);
          } in
          (part, λ none. part-none types ty ts p.wanted p.unwanted h fs at kept (none-here none))

    pub part-gone : (h : Head) (fs : List Ty) → fields_at types ty h ≡ Some fs → (w : List (List Pat)) → w ≡ special h (length fs) p.wanted → length w < length p.wanted → NoneBy types ty ts p h
    part-gone h fs at w e lt = part-lost types ty ts p.wanted p.unwanted h fs at (subst (λ l. length l < length p.wanted) e lt)

    -- the part that there may be, where the columns and the steps of q are those of the part already, and the rows p's
    pub specialized-part : (h : Head) (fs : List Ty) → fields_at types ty h ≡ Some fs → (q : Problem) → q.tys ≡ fs ++ ts → q.wanted ≡ p.wanted → q.unwanted ≡ p.unwanted
        → q.steps ≡ p.steps ++ step_of ty h (length fs) ∷ [] → AreInhabited types → AreTypesIn types ts → 1 ≤ some_head (first_head p.wanted) + some_head (first_head p.unwanted)
        → (o : Option Problem) → IsSpecialized h (length fs) q o → IsPartAt types ty ts p h o
    specialized-part h fs at q tys w u steps i lives stands None lost =
        part-gone h fs at (special h (length fs) q.wanted) (ap (special h (length fs)) w) (subst (λ rows. length (special h (length fs) q.wanted) < length rows) w lost)
    specialized-part h fs at q tys w u steps i lives stands (Some c) made =
        let is_wanted = ap (λ (x : Problem). x.wanted) made.0 in
        let long : length p.wanted ≤ length c.wanted = (let a = ap (λ (l : List (List Pat)). length l) w in let b = ap (λ (l : List (List Pat)). length l) is_wanted in let k = made.1 in omega (arith, a, b, k)) in
        part-at h fs at c (ap (λ (x : Problem). x.tys) made.0 ∙ tys) (is_wanted ∙ ap (special h (length fs)) w) (ap (λ (x : Problem). x.unwanted) made.0 ∙ ap (special h (length fs)) u)
        long i lives stands (ap (λ (x : Problem). x.steps) made.0 ∙ steps)

    -- the part by the default matrix
    pub rest-split : (q : Pat) → first_head p.wanted ≡ None → IsAbsent types ty (column_begins p.unwanted) q → AreTypesIn types ts
        → (c : Problem) → c.tys ≡ ts → c.wanted ≡ defaults p.wanted → c.unwanted ≡ defaults p.unwanted → length p.wanted ≤ length c.wanted → c.steps ≡ p.steps ++ Front q ∷ []
        → IsSplit types (Whole p) (Whole c ∷ [])
    rest-split q none absent lives c tys w u long steps =
        let kept : length (defaults p.wanted) ≡ length p.wanted = (let a = defaults-length p.wanted in let b = ap (λ l. length l) w in omega (arith, a, b, long)) in
        let l = ap (λ l. length l) tys in let columns = columns-length in
        let part : IsPart types p c = record {
          live = subst (AreTypesIn types) (sym tys) lives;
          step = Front q;
          steps = steps;
          sound = λ row r. at-root (q ∷ row) (rest-found types ty ts p.wanted p.unwanted none kept q absent row
              (subst (λ l. RowIsFound types ts (defaults p.wanted) l row) u (subst (λ l. RowIsFound types ts l c.unwanted row) w (subst (λ l. RowIsFound types l c.wanted c.unwanted row) tys r))));
          cheap = cheap types p c (defaults-fall types p c w u (omega (arith, l, columns)));
        } in
        let falls = part-fewer types p c part.cheap (omega (arith, columns)) in
        record {
          none = λ all. none-root (rest-none types ty ts p.wanted p.unwanted none kept
              (subst (λ l. AreUseless types ts (defaults p.wanted) l) u (subst (λ l. AreUseless types ts l c.unwanted) w (subst (λ l. AreUseless types l c.wanted c.unwanted) tys all.0))));
          within = λ root w. (part-within types root p c part w.sound, tt);
          fewer = omega (arith, falls);
        }

    pub rest-gone : first_head p.wanted ≡ None → (w : List (List Pat)) → w ≡ defaults p.wanted → length w < length p.wanted → IsSplit types (Whole p) []
    rest-gone none w e lt = no-split types (Whole p) [] refl (none-root (rest-lost types ty ts p.wanted p.unwanted none (subst (λ l. length l < length p.wanted) e lt)))

  -- a type whose values all begin with heads of the column has a head there
  pub some-stands : AreInhabited types → (ty : Ty) (rows : List (List Pat)) (hs : List Head) → IsTypeIn types ty → ((l : Value-F Value) → any_begins hs l ≡ column_begins rows l)
      → ((v : Value) → is_of_type types v ty ≡ true → any_begins hs (out-Value v) ≡ true) → 1 ≤ some_head (first_head rows)
  some-stands i ty rows hs alive same all = let v = live types i ty alive in by (first_head rows) refl (sym (same (out-Value v.0)) ∙ all v.0 v.1)
    where
      by : (o : Option Head) → first_head rows ≡ o → column_begins rows (out-Value (live types i ty alive).0) ≡ true → 1 ≤ some_head o
      by None e h = absurd (false≢true (sym (no-head rows (out-Value (live types i ty alive).0) e) ∙ h))
      by (Some g) e h = omega arith
