-- A call, its result in new slots.
use Rattle.std.proofs.Common.{◌≡◌, ℕ, ◌+◌, ◌<◌, ◌≤◌, Bool, List, [], ◌∷◌, ◌++◌, map, length, Some, refl, sym, subst, ap, ◌∙◌, arith, length-append}
use Rattle.std.proofs.lemmas.List.{map-append}
use Rattle.std.proofs.lemmas.Option.{slice_get_within, same_Some}
use Rattle.std.specs.Prelude.{slice_get, slice_index}
use Rattle.rb_core.specs.declared.value.Value.{Value}
use Rattle.rb_core.specs.declared.outcome.SourceEnd.{SourceEnd}
use Rattle.rb_core.specs.declared.outcome.SourceEnd.TheVariants.{Done, Spent as Stopped}
use Rattle.rb_core.specs.declared.program.Fun.{Fun}
use Rattle.rb_bytes.specs.Memory.{Memory}
use Rattle.rb_target.specs.declared.instr.Instr.{Instr}
use Rattle.rb_target.specs.declared.instr.Instr.TheVariants.{Call}
use Rattle.rb_target.specs.Meaning.{World, CallEnd as Run, taken, after_call, slots_at, put_slots}
use Rattle.rb_target.specs.Sheet.{Sheet}
use Rattle.rb_fragment.proofs.Holds.{AllBelow-more}
use Rattle.rb_fragment.proofs.Moves.{below-all, put_gives, put_kept, slots_from-above, slots_from-below, slots_from-contain, slots_from-length}
use Rattle.rb_fragment.proofs.Represented.{Rep-count}
use Rattle.rb_fragment.specs.Adding.{Adds, IsFitting}
use Rattle.rb_fragment.specs.Fragments.{AnyValues, Applies, Comes, with_call}
use Rattle.rb_fragment.specs.Holding.{AllGiven, AreHeld, all_slots, held_type}
use Rattle.rb_fragment.specs.Owing.{Ends, GivesValue}
use Rattle.rb_fragment.specs.Plan.{Plan, Rep, Reps, types_of, words_needed_by, words_needed}
use Rattle.rb_fragment.specs.Slots.{AllBelow, slots_from}
use Rattle.rb_fragment.specs.declared.held.Held.{Held}
use Rattle.rb_rel.specs.Placing.{Fits, Laid, Over}
use Rattle.rb_target.proofs.Growing.{Grows-append, get-seam}

-- The arguments' words

all_slots-below : (plan : Plan) (n : ℕ) (hs : List Held) → AllGiven plan n hs → AllBelow n (all_slots hs)
all_slots-below plan n [] g = tt
all_slots-below plan n (h ∷ hs) g = append-below h.slots (all_slots hs) g.0 (all_slots-below plan n hs g.2)
  where
    append-below : (xs ys : List ℕ) → AllBelow n xs → AllBelow n ys → AllBelow n (xs ++ ys)
    append-below [] ys a b = b
    append-below (x ∷ xs) ys a b = (a.0, append-below xs ys a.1 b)

all_slots-length : (plan : Plan) (n : ℕ) (hs : List Held) → AllGiven plan n hs → length (all_slots hs) ≡ words_needed_by plan (map held_type hs)
all_slots-length plan n [] g = refl
all_slots-length plan n (h ∷ hs) g = let r = all_slots-length plan n hs g.2 in omega (arith, length-append h.slots (all_slots hs), g.1, r)

held_words : (plan : Plan) (clean : Bool) (s : List ℕ) (m : Memory) (hs : List Held) (vs : List Value) → AreHeld plan clean s m hs vs → Reps plan m clean (map held_type hs) vs (slots_at s (all_slots hs))
held_words plan clean s m [] [] h = refl
held_words plan clean s m [] (v ∷ vs) h = h
held_words plan clean s m (x ∷ hs) [] h = h
held_words plan clean s m (x ∷ hs) (v ∷ vs) h =
    (slots_at s x.slots, slots_at s (all_slots hs), map-append (λ a. slice_index s a) x.slots (all_slots hs), h.0, held_words plan clean s m hs vs h.1)

-- Calls

-- a call goes on where the called function ends
call_ends : (most : ℕ) (back out : Run) (go : List ℕ → World → Run) (Ok1 Ok : Value → World → Type 0) (m : Memory) → out ≡ after_call back.ended back.world (λ words. go words back.world)
    → ((v : Value) (w' : World) → Ok1 v w' → Ok v w') → (l : Laid) (e : SourceEnd) → Ends most back m l e Ok1 → Ends most out m l e Ok
call_ends most back out go Ok1 Ok m eq f (Over r) e h = (h.0, eq ∙ ap (λ (b : Run). after_call b.ended b.world (λ words. go words b.world)) h.1, h.2)
call_ends most back out go Ok1 Ok m eq f (Fits bs p) Stopped h = (h.0, eq ∙ ap (λ (b : Run). after_call b.ended b.world (λ words. go words b.world)) h.1, h.2)
call_ends most back out go Ok1 Ok m eq f (Fits bs p) (Done v left) h = (h.0, h.1, h.2, h.3, f v h.0 h.4)

module _ (plan : Plan) (a : Sheet) (g : ℕ) (f : Fun) (hs : List Held) (is : slice_get plan.program.funs g ≡ Some f) (kinds : map held_type hs ≡ types_of f) (given : AllGiven plan a.slots hs) where
  abbrev k : ℕ
  k = words_needed plan f.result

  abbrev ds : List ℕ
  ds = slots_from a.slots k

  abbrev froms : List ℕ
  froms = all_slots hs

  abbrev instr : Instr
  instr = Call g ds froms

  abbrev after : Sheet
  after = with_call plan a g f hs

  fits : IsFitting plan after.slots (length a.code + 1) (length a.code) instr
  fits = record {
    bounded = tt;
    slots_fit = (below-all after.slots ds (slots_from-below a.slots k after.slots (omega arith)), below-all after.slots froms (AllBelow-more a.slots after.slots froms (omega arith) (all_slots-below plan a.slots hs given)));
    targets = tt;
    calls = (f, is, slots_from-length a.slots k, all_slots-length plan a.slots hs given ∙ ap (words_needed_by plan) kinds);
  }

  adds : Adds plan a after
  adds = record {
    grows = Grows-append a.code (instr ∷ []);
    more = omega arith;
    params = refl;
    written = λ s lo hi. (length a.code, instr, omega arith, get-seam a.code instr [], slots_from-contain a.slots k s lo hi);
    fine = λ pc j lo e.
        let long : length (a.code ++ instr ∷ []) ≡ length a.code + 1 = length-append a.code (instr ∷ []) in
        let lt = slice_get_within (a.code ++ instr ∷ []) pc j e in
        let same : pc ≡ length a.code = omega (arith, lo, lt, long) in
        let here : instr ≡ j = same_Some instr j (sym (get-seam a.code instr []) ∙ ap (λ n. slice_get (a.code ++ instr ∷ []) n) (sym same) ∙ e) in
        subst (λ n. IsFitting plan after.slots n pc j) (sym long) (subst (λ n. IsFitting plan after.slots (length a.code + 1) n j) (sym same) (subst (λ (i : Instr). IsFitting plan after.slots (length a.code + 1) (length a.code) i) here fits));
  }

  pub call_applies : Applies plan AnyValues (λ calls vs left. calls g left vs) hs a after f.result ds
  call_applies = record {
    adds = adds;
    given = slots_from-below a.slots k after.slots (omega arith);
    count = slots_from-length a.slots k;
    fresh = λ x h. slots_from-above a.slots k x h;
    does = λ calls clean vs any. record {
      runs = λ final callee next law rel agrees s w long good pre.
          let code = a.code ++ instr ∷ [] in
          let len : length code ≡ length a.code + 1 = length-append a.code (instr ∷ []) in
          let lo : length a.code ≤ length a.code = omega arith in
          let hi : length a.code < length code = omega (arith, len) in
          let there : slice_get final (length a.code) ≡ Some instr = agrees.same (length a.code) lo hi (λ x. x) ∙ get-seam a.code instr [] in
          let out = next (length a.code) s w in
          let ws = slots_at s froms in
          let back = callee g ws (taken w) in
          let ran : out ≡ after_call back.ended back.world (λ words. next (length a.code + 1) (put_slots s ds words) back.world) = law.step (length a.code) instr s w there in
          let reps = subst (λ ts. Reps plan w.memory clean ts vs ws) kinds (held_words plan clean s w.memory hs vs pre) in
          call_ends _ back out (λ words v. next (length a.code + 1) (put_slots s ds words) v) (GivesValue plan clean f.result back) (Comes plan clean out next (length code) a.slots f.result ds s) w.memory ran
          (λ v w' r.
          let words = r.0 in
          let count : length words ≡ k = Rep-count plan clean w'.memory r.2 in
          let s' = put_slots s ds words in (
            s',
            ran ∙ ap (λ (b : Run). after_call b.ended b.world (λ us. next (length a.code + 1) (put_slots s ds us) b.world)) r.1 ∙ ap (λ n. next n s' w') (sym len),
            put_kept a.slots a.slots k s words (omega arith),
            subst (λ us. Rep plan w'.memory clean f.result v us) (sym (put_gives a.slots k s words long count)) r.2,
          ))
          _ _ (rel clean g f vs ws (taken w) is good reps);
    };
  }
