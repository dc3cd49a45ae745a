-- Variables and values go on being held.
use Rattle.std.proofs.Common.{◌≡◌, ℕ, ◌≤◌, ◌⊎◌, inl, inr, Bool, List, [], ◌∷◌, ◌++◌, refl, sym, subst, ap, ◌∙◌, arith}
use Rattle.std.specs.Prelude.{slice_index}
use Rattle.rb_core.specs.declared.value.Value.{Value}
use Rattle.rb_core.specs.declared.binding.Binding.{Binding}
use Rattle.rb_bytes.specs.Memory.{Memory}
use Rattle.rb_bytes.specs.Laws.{Extends}
use Rattle.rb_target.specs.Meaning.{slots_at}
use Rattle.rb_fragment.proofs.Represented.{Rep-kept}
use Rattle.rb_fragment.specs.Holding.{AllGiven, AreGiven, AreHeld, Holds, IsOfLocal}
use Rattle.rb_fragment.specs.Plan.{Plan, Rep}
use Rattle.rb_fragment.specs.Slots.{AllBelow}
use Rattle.rb_fragment.specs.declared.held.Held.{Held}
use Rattle.rb_fragment.specs.declared.held.Local.{Local}
use Rattle.rb_target.specs.Growth.{Keeps}

pub AllBelow-more : (n n1 : ℕ) (xs : List ℕ) → n ≤ n1 → AllBelow n xs → AllBelow n1 xs
AllBelow-more n n1 [] le a = tt
AllBelow-more n n1 (x ∷ xs) le a = (omega (arith, a.0, le), AllBelow-more n n1 xs le a.1)

module _ (plan : Plan) where
  pub AreGiven-more : (n n1 : ℕ) (ls : List Local) → n ≤ n1 → AreGiven plan n ls → AreGiven plan n1 ls
  AreGiven-more n n1 [] le a = tt
  AreGiven-more n n1 (l ∷ ls) le a = (AllBelow-more n n1 l.slots le a.0, a.1, AreGiven-more n n1 ls le a.2)

  pub AreGiven-append : (n : ℕ) (ls ks : List Local) → AreGiven plan n ls → AreGiven plan n ks → AreGiven plan n (ls ++ ks)
  AreGiven-append n [] ks a b = b
  AreGiven-append n (l ∷ ls) ks a b = (a.0, a.1, AreGiven-append n ls ks a.2 b)

  pub AllGiven-more : (n n1 : ℕ) (hs : List Held) → n ≤ n1 → AllGiven plan n hs → AllGiven plan n1 hs
  AllGiven-more n n1 [] le a = tt
  AllGiven-more n n1 (h ∷ hs) le a = (AllBelow-more n n1 h.slots le a.0, a.1, AllGiven-more n n1 hs le a.2)

  pub AllGiven-append : (n : ℕ) (hs ks : List Held) → AllGiven plan n hs → AllGiven plan n ks → AllGiven plan n (hs ++ ks)
  AllGiven-append n [] ks a b = b
  AllGiven-append n (h ∷ hs) ks a b = (a.0, a.1, AllGiven-append n hs ks a.2 b)

pub IsOfLocal-append : (x : ℕ) (ls ks : List Local) → IsOfLocal x (ls ++ ks) → IsOfLocal x ls ⊎ IsOfLocal x ks
IsOfLocal-append x [] ks a = inr a
IsOfLocal-append x (l ∷ ls) ks (inl a) = inl (inl a)
IsOfLocal-append x (l ∷ ls) ks (inr a) = elim (IsOfLocal-append x ls ks a) [ inl b ↦ inl (inr b) | inr b ↦ inr b ]

-- the words in kept slots stay
pub slots_at-kept : (n : ℕ) (s s' xs : List ℕ) → AllBelow n xs → Keeps n s s' → slots_at s' xs ≡ slots_at s xs
slots_at-kept n s s' [] below k = refl
slots_at-kept n s s' (x ∷ xs) below k =
    ap (λ w. w ∷ slots_at s' xs) (k.same x below.0) ∙ ap (λ ws. slice_index s x ∷ ws) (slots_at-kept n s s' xs below.1 k)

module _ (plan : Plan) (clean : Bool) (m m' : Memory) (e : Extends m m') (n : ℕ) (s s' : List ℕ) (k : Keeps n s s') where
  -- variables go on holding their values
  pub Holds-kept : (ls : List Local) (bs : List Binding) → AreGiven plan n ls → Holds plan clean s m ls bs → Holds plan clean s' m' ls bs
  Holds-kept [] [] below h = tt
  Holds-kept [] (b ∷ bs) below h = h
  Holds-kept (l ∷ ls) [] below h = h
  Holds-kept (l ∷ ls) (b ∷ bs) below h = (
    h.0,
    subst (λ ws. Rep plan m' clean l.ty b.value ws) (sym (slots_at-kept n s s' l.slots below.0 k)) (Rep-kept plan clean m m' e h.1),
    Holds-kept ls bs below.2 h.2,
  )

  pub AreHeld-kept : (hs : List Held) (vs : List Value) → AllGiven plan n hs → AreHeld plan clean s m hs vs → AreHeld plan clean s' m' hs vs
  AreHeld-kept [] [] below h = tt
  AreHeld-kept [] (v ∷ vs) below h = h
  AreHeld-kept (x ∷ hs) [] below h = h
  AreHeld-kept (x ∷ hs) (v ∷ vs) below h = (
    subst (λ ws. Rep plan m' clean x.ty v ws) (sym (slots_at-kept n s s' x.slots below.0 k)) (Rep-kept plan clean m m' e h.0),
    AreHeld-kept hs vs below.2 h.1,
  )

module _ (plan : Plan) (clean : Bool) (s : List ℕ) (m : Memory) where
  pub Holds-append : (ls ks : List Local) (bs cs : List Binding) → Holds plan clean s m ls bs → Holds plan clean s m ks cs → Holds plan clean s m (ls ++ ks) (bs ++ cs)
  Holds-append [] ks [] cs a b = b
  Holds-append [] ks (x ∷ bs) cs a b = absurd a
  Holds-append (l ∷ ls) ks [] cs a b = absurd a
  Holds-append (l ∷ ls) ks (x ∷ bs) cs a b = (a.0, a.1, Holds-append ls ks bs cs a.2 b)

  pub AreHeld-append : (hs ks : List Held) (vs us : List Value) → AreHeld plan clean s m hs vs → AreHeld plan clean s m ks us → AreHeld plan clean s m (hs ++ ks) (vs ++ us)
  AreHeld-append [] ks [] us a b = b
  AreHeld-append [] ks (x ∷ vs) us a b = absurd a
  AreHeld-append (h ∷ hs) ks [] us a b = absurd a
  AreHeld-append (h ∷ hs) ks (x ∷ vs) us a b = (a.0, AreHeld-append hs ks vs us a.1 b)
