-- A table kept as a map whose keys are borrowed: what its entries make of lookups and definitions.
use Rattle.std.proofs.Common.{◌≡◌, Bool, true, false, List, [], ◌∷◌, ◌++◌, map, Option, Some, None, is_some, refl, ap, ◌∙◌}
use Rattle.std.proofs.lemmas.List.{map-append}
use Rattle.std.specs.Map.{lookup}
use Rattle.std.specs.Str.{bytes_eq}
use Rattle.rb_names.specs.Tables.{Name, Table, meaning}
use Rattle.rb_names.specs.inner.Defining.{with_definition}

-- a lookup by the names of the keys
pub meaning-entries : {K A : Type 0} (name_of : K → Name) (q : Name) (test : K → Bool) → ((k : K) → test k ≡ bytes_eq q (name_of k))
    → (es : List (K × A)) → lookup test es ≡ meaning (map (λ e. (name_of e.0, e.1)) es) q
meaning-entries name_of q test same [] = refl
meaning-entries name_of q test same (e ∷ es) = rw (same e.0, meaning-entries name_of q test same es) refl

-- a name that is defined leaves the table as it is
pub defined-before : {A : Type 0} (t : Table A) (q : Name) (x : A) (before : Option A) → is_some before ≡ true → t ≡ with_definition t q x before
defined-before t q x (Some a) h = refl
defined-before t q x None h = cc

pub defined-new : {A : Type 0} (t : Table A) (q : Name) (x : A) (before : Option A) → is_some before ≡ false → with_definition t q x before ≡ t ++ (q, x) ∷ []
defined-new t q x (Some a) h = cc
defined-new t q x None h = refl

pub none-here : {A : Type 0} (found : Option A) → is_some found ≡ false → found ≡ None
none-here (Some a) h = cc
none-here None h = refl

-- one more entry behind the others
pub entries-new : {K A : Type 0} (name_of : K → Name) (es new : List (K × A)) (k : K) (x : A) (t : Table A)
    → new ≡ es ++ (k, x) ∷ [] → map (λ (e : K × A). (name_of e.0, e.1)) es ≡ t → map (λ (e : K × A). (name_of e.0, e.1)) new ≡ t ++ (name_of k, x) ∷ []
entries-new name_of es new k x t is seen = ap (map (λ e. (name_of e.0, e.1))) is ∙ map-append _ es _ ∙ ap (λ t. t ++ (name_of k, x) ∷ []) seen
