-- Members of lists that pass a test, and lists at one of their members.
use Rattle.std.proofs.Common.{◌≡◌, ◌||◌, inl, inr, Bool, true, false, List, [], ◌∷◌, ◌++◌, refl, sym, ap, ◌∙◌}
use Rattle.std.specs.List.{list_any}
use Rattle.rb_image.proofs.SpotLemmas.{In}

or_true : (b : Bool) → (b || true) ≡ true
or_true true = refl
or_true false = refl

pub any_in : {A : Type 0} (test : A → Bool) (x : A) (xs : List A) → In x xs → test x ≡ true → list_any test xs ≡ true
any_in test x [] h e = absurd h
any_in test x (y ∷ xs) (inl is) e = ap (λ b. b || list_any test xs) (ap test (sym is) ∙ e)
any_in test x (y ∷ xs) (inr h) e = ap (λ b. test y || b) (any_in test x xs h e) ∙ or_true (test y)

pub in_any : {A : Type 0} (test : A → Bool) (xs : List A) → list_any test xs ≡ true → (x : A) × In x xs × (test x ≡ true)
in_any test [] e = absurd cc
in_any {A} test (x ∷ xs) e = go (in_any test xs) (test x) refl e
  where
    go : (list_any test xs ≡ true → (y : A) × In y xs × (test y ≡ true)) → (b : Bool) → test x ≡ b → (b || list_any test xs) ≡ true → (y : A) × In y (x ∷ xs) × (test y ≡ true)
    go more true is h = (x, inl refl, is)
    go more false is h = let r = more h in (r.0, inr r.1, r.2)

-- what stands before a member, and behind it
pub split_in : {A : Type 0} (x : A) (xs : List A) → In x xs → (before : List A) × (after : List A) × (xs ≡ before ++ x ∷ after)
split_in x [] h = absurd h
split_in x (y ∷ xs) (inl is) = ([], xs, ap (λ z. z ∷ xs) (sym is))
split_in x (y ∷ xs) (inr h) = let r = split_in x xs h in (y ∷ r.0, r.1, ap (λ zs. y ∷ zs) r.2)
