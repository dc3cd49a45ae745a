-- The first fault of a list, one item after another, and of a layout's leaves.
use Rattle.std.proofs.Common.{◌≡◌, ℕ, zero, suc, ◌+◌, ◌<◌, List, [], ◌∷◌, ◌++◌, map, drop, length, Option, Some, None, Ok, Err, get_or, refl, sym, ap, ◌∙◌, subst, arith, add-one}
use Rattle.std.proofs.lemmas.List.{map-append}
use Rattle.std.specs.Option.{option_or}
use Rattle.std.specs.Result.{IsErrAnd}
use Rattle.std.specs.List.{flat_map}
use Rattle.rb_core.specs.declared.types.DataDecl.{DataDecl}
use Rattle.rb_core.specs.declared.program.Program.{Program}
use Rattle.rb_core.specs.declared.layout_decl.Loc.{Loc}
use Rattle.rb_core.specs.declared.layout_decl.Arm.{Arm}
use Rattle.rb_core.specs.declared.layout_decl.LayTree.{LayTree}
use Rattle.rb_core.specs.declared.layout_decl.LayTree as X
use Rattle.rb_core.specs.declared.layout_decl.LayTree.TheOpen as T
use Rattle.rb_core.specs.declared.layout_decl.LayTree.TheFolds.{fold-roll-LayTree}
use Rattle.rb_core.specs.declared.typing.TypeFault.{TypeFault}
use Rattle.rb_core.specs.declared.typing.TypeFault.TheVariants.{Empty, Mismatch, Arity, VariableTwice, Memory}
use Rattle.rb_core.specs.Layouts.{WrittenLeaf, leaves, leaves_under, leaves_step, arm_leaves}
use Rattle.rb_core.specs.Typing.{Typing}
use Rattle.rb_core.specs.TypedPrograms.{first_fault, provenance_fault, layout_fault, function_fault, rule_fault}
use Rattle.rb_check.specs.inner.Answers.{AnswersFault, arm_fault}

-- a fault that ends one part ends the whole
pub HasFault-fails : (r : Typing (Unit {0})) (fault : TypeFault) (here all : Option TypeFault)
    → IsErrAnd r (λ e. e ≡ fault) → AnswersFault (Err fault) here → ((f : TypeFault) → here ≡ Some f → all ≡ Some f) → AnswersFault r all
HasFault-fails (Ok done) fault here all is h k = absurd is
HasFault-fails (Err e) fault here all is h k = subst (λ x. AnswersFault (Err x) all) (sym is) (through fault h)
  where
    through : (f : TypeFault) → AnswersFault (Err f) here → AnswersFault (Err f) all
    through Memory p = tt
    through (Empty t) p = p
    through (Mismatch at wanted found) p = k _ p
    through (Arity at wanted found) p = k _ p
    through (VariableTwice at) p = k _ p

first_fault-cons : (o : Option TypeFault) (os : List (Option TypeFault)) → first_fault (o ∷ os) ≡ option_or o (first_fault os)
first_fault-cons None os = refl
first_fault-cons (Some f) os = refl

module _ {A : Type 0} (fault : A → Option TypeFault) where
  from_here : (xs : List A) (i : ℕ) (x : A) → i < length xs → x ≡ get_or xs i x
      → first_fault (map fault (drop i xs)) ≡ option_or (fault x) (first_fault (map fault (drop (suc i) xs)))
  from_here [] i x lt is = absurd (omega arith)
  from_here (y ∷ ys) zero x lt is = rw is (first_fault-cons (fault y) (map fault ys))
  from_here (y ∷ ys) (suc i) x lt is = from_here ys i x (omega arith) is

  pub first_fault-next : (xs : List A) (i : ℕ) (x : A) → i < length xs → x ≡ get_or xs i x → fault x ≡ None
      → first_fault (map fault (drop i xs)) ≡ first_fault (map fault (drop (i + 1) xs))
  first_fault-next xs i x lt is h = rw (add-one i) (from_here xs i x lt is ∙ ap (λ o. option_or o (first_fault (map fault (drop (suc i) xs)))) h)

  pub first_fault-here : (xs : List A) (i : ℕ) (x : A) (f : TypeFault) → i < length xs → x ≡ get_or xs i x → fault x ≡ Some f
      → first_fault (map fault (drop i xs)) ≡ Some f
  first_fault-here xs i x f lt is h = from_here xs i x lt is ∙ ap (λ o. option_or o (first_fault (map fault (drop (suc i) xs)))) h

pub first_fault-append : (xs ys : List (Option TypeFault)) → first_fault (xs ++ ys) ≡ option_or (first_fault xs) (first_fault ys)
first_fault-append [] ys = refl
first_fault-append (None ∷ xs) ys = first_fault-append xs ys
first_fault-append (Some f ∷ xs) ys = refl

module _ (types : List DataDecl) (ty : ℕ) where
  abbrev faults : List WrittenLeaf → Option TypeFault
  faults ls = first_fault (map (provenance_fault types ty) (map (λ l. l.provenance) ls))

  faults-append : (ks ls : List WrittenLeaf) → faults (ks ++ ls) ≡ option_or (faults ks) (faults ls)
  faults-append ks ls =
      ap (λ ps. first_fault (map (provenance_fault types ty) ps)) (map-append (λ (l : WrittenLeaf). l.provenance) ks ls)
      ∙ ap first_fault (map-append (provenance_fault types ty) (map (λ l. l.provenance) ks) (map (λ l. l.provenance) ls))
      ∙ first_fault-append (map (provenance_fault types ty) (map (λ l. l.provenance) ks)) (map (provenance_fault types ty) (map (λ l. l.provenance) ls))

  arms_faults : (arms : List Arm) → faults (flat_map (λ ls. ls) (map leaves_under arms)) ≡ first_fault (map (arm_fault types ty) arms)
  arms_faults [] = refl
  arms_faults (a ∷ arms) =
      faults-append (leaves_under a) (flat_map (λ ls. ls) (map leaves_under arms))
      ∙ ap (option_or (faults (leaves_under a))) (arms_faults arms)
      ∙ sym (first_fault-cons (arm_fault types ty a) (map (arm_fault types ty) arms))

  abbrev pub tree_fault : LayTree → Option TypeFault
  tree_fault tree = faults (leaves tree)

  abbrev pub other_fault : Option LayTree → Option TypeFault
  other_fault None = None
  other_fault (Some tree) = tree_fault tree

  leaves-None : (loc : Loc) (arms : List Arm) → leaves (X.Split loc arms None) ≡ flat_map (λ ls. ls) (map leaves_under arms) ++ []
  unfolding X.roll-LayTree denote.Hole.Carrier.roll
  leaves-None loc arms = fold-roll-LayTree (List WrittenLeaf) (List WrittenLeaf) leaves_step arm_leaves (T.Split loc arms None)

  leaves-Some : (loc : Loc) (arms : List Arm) (other : LayTree) → leaves (X.Split loc arms (Some other)) ≡ flat_map (λ ls. ls) (map leaves_under arms) ++ leaves other
  unfolding X.roll-LayTree denote.Hole.Carrier.roll
  leaves-Some loc arms other = fold-roll-LayTree (List WrittenLeaf) (List WrittenLeaf) leaves_step arm_leaves (T.Split loc arms (Some other))

  split_fault : (loc : Loc) (arms : List Arm) (other : Option LayTree)
      → tree_fault (X.Split loc arms other) ≡ option_or (first_fault (map (arm_fault types ty) arms)) (other_fault other)
  split_fault loc arms None = ap faults (leaves-None loc arms) ∙ faults-append _ [] ∙ ap (λ o. option_or o None) (arms_faults arms)
  split_fault loc arms (Some other) = ap faults (leaves-Some loc arms other) ∙ faults-append _ (leaves other) ∙ ap (λ o. option_or o (tree_fault other)) (arms_faults arms)

  -- a split whose arms have this first fault, or none
  pub tree_fault-Split : (tree : LayTree) (loc : Loc) (arms seen : List Arm) (other : Option LayTree) (o : Option TypeFault)
      → tree ≡ X.Split loc arms other → seen ≡ arms → first_fault (map (arm_fault types ty) seen) ≡ o → tree_fault tree ≡ option_or o (other_fault other)
  tree_fault-Split tree loc arms seen other o is same h =
      ap tree_fault is ∙ split_fault loc arms other
      ∙ ap (λ x. option_or (first_fault (map (arm_fault types ty) x)) (other_fault other)) (sym same)
      ∙ ap (λ x. option_or x (other_fault other)) h

-- the layouts' faults come before the functions'
pub rule_fault-opens : (p : Program) (o : Option TypeFault) → first_fault (map (layout_fault p.types) p.layouts) ≡ o
    → rule_fault p ≡ option_or o (first_fault (map (function_fault p.types p.funs) p.funs))
rule_fault-opens p o h = first_fault-append (map (layout_fault p.types) p.layouts) (map (function_fault p.types p.funs) p.funs)
    ∙ ap (λ x. option_or x (first_fault (map (function_fault p.types p.funs) p.funs))) h
