-- An arm of a match: its variables, its body, and its value where all arms leave it.
use Rattle.std.proofs.Common.{◌≡◌, ℕ, ◌+◌, ◌<◌, ◌≤◌, ◌⊎◌, inl, inr, Bool, List, [], ◌∷◌, ◌++◌, length, Some, refl, sym, subst, ap, ◌∙◌, arith, append_assoc, length-append, Option, None}
use Rattle.std.specs.Prelude.{slice_get}
use Rattle.rb_core.specs.declared.value.Value.{Value}
use Rattle.rb_core.specs.declared.types.Ty.{Ty}
use Rattle.rb_core.specs.declared.binding.Binding.{Binding}
use Rattle.rb_core.specs.declared.outcome.Outcome.{Outcome}
use Rattle.rb_core.specs.Meaning.{Calls}
use Rattle.rb_bytes.specs.Memory.{Memory, IsGood}
use Rattle.rb_target.specs.declared.instr.Instr.{Instr}
use Rattle.rb_target.specs.declared.instr.Instr.TheVariants.{Jump}
use Rattle.rb_target.specs.Meaning.{World, slots_at}
use Rattle.rb_target.specs.Sheet.{Sheet, with_more}
use Rattle.rb_target.specs.declared.body.Hole.{Hole}
use Rattle.rb_fragment.proofs.Adding.{Adds-trans}
use Rattle.rb_fragment.proofs.Holds.{AllBelow-more}
use Rattle.rb_fragment.proofs.Laying.{does_later, does_map}
use Rattle.rb_fragment.proofs.Moves.{CodeStands, copied, copied-kept, copies_run, joining_adds, joining_length, one-below, one-from, slots_at-copied, slots_from-above, slots_from-below, slots_from-distinct, slots_from-from, slots_from-has, slots_from-length, stands_from}
use Rattle.rb_fragment.specs.Adding.{Adds}
use Rattle.rb_fragment.specs.Arms.{AreShared, CodeArm, IsJoin, JoinedIs, shared_held, shared_sheet}
use Rattle.rb_fragment.specs.Fragments.{Comes, Emits}
use Rattle.rb_fragment.specs.Holding.{AreGiven, Holds, IsOfLocal}
use Rattle.rb_fragment.specs.Owing.{Does}
use Rattle.rb_fragment.specs.Pieces.{AtEnd, IsLater, CodePiece}
use Rattle.rb_fragment.specs.Plan.{Plan, Rep, words_needed}
use Rattle.rb_fragment.specs.Slots.{AllBelow, AllFrom, SlotsAreApart, IsDistinct, IsOneOf, copies, with_join, slots_from}
use Rattle.rb_fragment.specs.declared.held.Held.{Held}
use Rattle.rb_fragment.specs.declared.held.Joined.{Joined}
use Rattle.rb_fragment.specs.declared.held.Local.{Local}
use Rattle.rb_target.proofs.Growing.{Agrees-part, Grows-append, Grows-trans, Keeps-trans, get-seam}
use Rattle.rb_target.specs.Growth.{Grows, Keeps, Nowhere}

pub local-below : (plan : Plan) (n : ℕ) (ls : List Local) (x : ℕ) → AreGiven plan n ls → IsOfLocal x ls → x < n
local-below plan n [] x given h = absurd h
local-below plan n (l ∷ ls) x given (inl h) = one-below n x l.slots given.0 h
local-below plan n (l ∷ ls) x given (inr h) = local-below plan n ls x given.2 h

-- An arm: its variables, with their switches, its body, and its value where all arms leave it.
module _ (plan : Plan) (clean : Bool) (calls : Calls) (n : ℕ) (t : Ty) (a b c : Sheet) (inner : List Local) (ys : List ℕ) (Pre : List ℕ → Memory → Type 0) (env : List Binding) (eb : Calls → ℕ → List Binding → Outcome) (extra : ℕ)
    (m : ℕ) (into : List ℕ) (room_into : c.slots ≤ m) (from : AllFrom n into) (below : AllBelow m into) (distinct : IsDistinct into) (count : length into ≡ words_needed plan t)
    (new : (s : ℕ) → c.slots ≤ s → s < m → IsOneOf s into)
    (bind : CodePiece plan n a b Nowhere extra Pre (AtEnd b (λ s m. Holds plan clean s m inner env)))
    (body : Emits plan eb inner b c t ys)
    (apart : SlotsAreApart into ys) where
  abbrev wide : Sheet
  wide = record c { slots = m }

  abbrev whole : Sheet
  whole = with_join wide into ys

  abbrev join : ℕ
  join = length c.code + length (copies into ys)

  ys_low : AllBelow m ys
  ys_low = AllBelow-more c.slots m ys room_into body.given

  same_words : length into ≡ length ys
  same_words = count ∙ sym body.count

  pub arm : CodeArm plan clean calls n a whole join extra Pre (λ left. eb calls left env) t into
  arm = record {
    adds = Adds-trans plan a c whole (Adds-trans plan a b c bind.adds body.adds) (joining_adds plan c m into ys room_into below ys_low same_words new);
    runs = λ final callee next law rel agrees s w room good pre.
        let out = next (length a.code) s w in
        let code = whole.code in
        let len = joining_length plan c m into ys room_into below ys_low same_words new in
        let l1 = bind.adds.grows.longer in let l2 = body.adds.grows.longer in
        let more = Grows-append c.code (copies into ys ++ Jump (length c.code + length (copies into ys) + 1) ∷ []) in
        let agrees1 = Agrees-part final code b.code (length a.code) (length code) (length a.code) (length b.code) (λ pc. pc ≡ join) Nowhere (Grows-trans b.code c.code code body.adds.grows more) (omega arith) (omega (arith, l2, len)) (omega arith) (λ pc lo hi e. absurd (omega (arith, hi, e, l2))) agrees in
        let agrees2 = Agrees-part final code c.code (length a.code) (length code) (length b.code) (length c.code) (λ pc. pc ≡ join) Nowhere more (omega (arith, l1)) (omega (arith, len)) (omega arith) (λ pc lo hi e. absurd (omega (arith, hi, e))) agrees in
        let there : CodeStands final (length c.code) (copies into ys) = stands_from final (copies into ys) c.code (Jump (length c.code + length (copies into ys) + 1) ∷ []) (length c.code) refl
        (λ j lo hi. agrees.same j (omega (arith, lo, l1, l2)) (omega (arith, hi, len)) (λ e. absurd (omega (arith, hi, e)))) in
        let long1 : b.slots ≤ length s = omega (arith, room, room_into, body.adds.more) in
        let r = bind.runs final callee next law agrees1 s w long1 pre in
        let long2 : c.slots ≤ length r.1 = omega (arith, r.4.long, room, room_into) in
        let good1 : IsGood r.2.memory = subst (λ m. IsGood m) (sym r.5.memory) good in
        let holds : Holds plan clean r.1 r.2.memory inner env = subst (λ m. Holds plan clean r.1 m inner env) (sym r.5.memory) r.6.1 in
        let Mid = Comes plan clean (next (length b.code) r.1 r.2) next (length c.code) b.slots t ys r.1 in
        let d1 = (body.does calls clean env).runs final callee next law rel agrees2 r.1 r.2 long2 good1 holds in
        let d2 = subst (λ l. Does plan r.2.switches (next (length b.code) r.1 r.2) r.2.memory (eb calls l env) Mid) r.5.left d1 in
        let d3 = subst (λ m. Does plan r.2.switches (next (length b.code) r.1 r.2) m (eb calls w.left env) Mid) r.5.memory d2 in
        let Ok1 = λ (v : Value) (w' : World). (s2 : List ℕ) × (out ≡ next (length c.code) s2 w') × Keeps n s s2 × (length s2 ≡ length s) × Rep plan w'.memory clean t v (slots_at s2 ys) in
        let bound : out ≡ next (length b.code) r.1 r.2 = ◌∙◌ {b = next r.0 r.1 r.2} {c = next (length b.code) r.1 r.2} r.3 (ap (λ pc. next pc r.1 r.2) r.6.0) in
        let d4 = does_map plan (w.switches + extra) r.2.switches out (next (length b.code) r.1 r.2) Ok1 Mid w.memory (eb calls w.left env) (omega (arith, r.5.switches)) bound
        (λ v w' q. (q.0, ◌∙◌ {a = out} {b = next (length b.code) r.1 r.2} bound q.1, Keeps-trans n n s r.1 q.0 (omega arith) r.4 (record { long = q.2.long; same = λ x lt. q.2.same x (omega (arith, lt, bind.low, bind.adds.more)) }), q.2.long ∙ r.4.long, q.3)) d3 in
        does_later plan (w.switches + extra) out (Comes plan clean out next join n t into s) Ok1 w.memory (eb calls w.left env)
        (λ v w' q.
        let ran = copies_run final callee next law into ys (length c.code) q.0 w' there in
        let w2 = ran.0 in
        let words : slots_at (copied q.0 into ys) into ≡ slots_at q.0 ys = slots_at-copied q.0 into ys same_words (AllBelow-more m (length q.0) into (omega (arith, q.3, room)) below) distinct apart in (
          w2,
          ran.2.memory,
          ran.2.left,
          zero_more w' w2 ran.2,
          (
            copied q.0 into ys,
            q.1 ∙ ran.1,
            Keeps-trans n n s q.0 (copied q.0 into ys) (omega arith) q.2 (copied-kept n into q.0 ys from),
            subst (λ m. Rep plan m clean t v (slots_at (copied q.0 into ys) into)) (sym ran.2.memory) (subst (λ us. Rep plan w'.memory clean t v us) (sym words) q.4),
          ),
        ))
        d4;
  }
    where
      zero_more : (w w2 : World) → IsLater 0 w w2 → w2.switches ≤ w.switches
      zero_more w w2 l = omega (arith, l.switches)

-- What joins

shared_code : (into : Option Held) (c : Sheet) (held : Held) → (shared_sheet into c held).code ≡ c.code
shared_code None c held = refl
shared_code (Some h) c held = refl

pub joined_is : (into : Option Held) (held : Held) (c c1 c2 c3 : Sheet) (h : Held) (pc : ℕ) → h ≡ shared_held into c held → c1 ≡ shared_sheet into c held
    → c2 ≡ record c1 { code = c1.code ++ copies h.slots held.slots } → pc ≡ length c2.code → c3 ≡ with_more c2 (Jump (pc + 1)) → JoinedIs into held c c3 (record { into = h; join = record { pc = pc; arm = None; leaf = 0 } })
joined_is into held c c1 c2 c3 h pc e e1 e2 at e3 =
    let moved = copies h.slots held.slots in
    let same : c1.code ≡ c.code = ap (λ (k : Sheet). k.code) e1 ∙ shared_code into c held in
    let len : pc ≡ length c1.code + length moved = at ∙ ap (λ (k : Sheet). length k.code) e2 ∙ length-append c1.code moved in
    let last : Instr = Jump (length c1.code + length moved + 1) in
    let code : c3 ≡ with_join c1 h.slots held.slots = e3 ∙ ap (λ (k : Sheet). with_more k (Jump (pc + 1))) e2 ∙ ap (λ k. let s : Sheet = record c1 { code = (c1.code ++ moved) ++ Jump (k + 1) ∷ [] } in s) len
    ∙ ap (λ k. let s : Sheet = record c1 { code = k } in s) (append_assoc c1.code moved (last ∷ [])) in
    record {
      shared = e;
      code = code ∙ ap (λ (k : Sheet). with_join k h.slots held.slots) e1;
      join = ap (λ k. let x : Hole = record { pc = k; arm = None; leaf = 0 } in x) (len ∙ ap (λ k. length k + length moved) same);
    }

pub arm_join : (into : Option Held) (held : Held) (c d : Sheet) (r : Joined) → JoinedIs into held c d r → IsJoin (length c.code) d.code r.join × Grows c.code d.code
arm_join into held c d r j =
    let moved = copies r.into.slots held.slots in
    let c1 = shared_sheet into c held in
    let same = shared_code into c held in
    let last : Instr = Jump (length c1.code + length moved + 1) in
    let code : d.code ≡ c.code ++ (moved ++ last ∷ []) = ap (λ (k : Sheet). k.code) j.code ∙ ap (λ k. k ++ (moved ++ last ∷ [])) same in
    let pc : r.join.pc ≡ length c.code + length moved = ap (λ (h : Hole). h.pc) j.join in
    let leaf : r.join.leaf ≡ 0 = ap (λ (h : Hole). h.leaf) j.join in
    let none : r.join.arm ≡ None = ap (λ (h : Hole). h.arm) j.join in
    let at : slice_get d.code r.join.pc ≡ Some last = ap (λ k. slice_get k r.join.pc) (code ∙ sym (append_assoc c.code moved (last ∷ []))) ∙ ap (λ k. slice_get ((c.code ++ moved) ++ last ∷ []) k) (pc ∙ sym (length-append c.code moved)) ∙ get-seam (c.code ++ moved) last [] in
    ((omega (arith, pc), leaf, (length c1.code + length moved + 1, at, none)), subst (λ k. Grows c.code k) (sym code) (Grows-append c.code (moved ++ last ∷ [])))

-- An arm behind its variables and its body, with its words where all arms leave theirs: the slots that the
-- arms before it share, or new ones.
module _ (plan : Plan) (t : Ty) (n : ℕ) (a b q d : Sheet) (inner : List Local) (hy : Held) (r : Joined) (eb : Calls → ℕ → List Binding → Outcome) (extra : ℕ) (below_a : n ≤ a.slots) (ab : Adds plan a b)
    (body : Emits plan eb inner b q t hy.slots)
    (outside : (x : ℕ) → IsOneOf x hy.slots → (x < n) ⊎ (a.slots ≤ x))
    (Case : Type 0) (clean : Case → Bool) (env : Case → List Binding) (Pre : Case → List ℕ → Memory → Type 0) (bind : (i : Case) → CodePiece plan n a b Nowhere extra (Pre i) (AtEnd b (λ s m. Holds plan (clean i) s m inner (env i)))) where
  -- what is known of the shared slots, and what the arm does in each case
  pub record IsArm : Type 0 where
    pub adds : Adds plan a d
    pub shared : AreShared n d.slots (words_needed plan t) r.into.slots
    pub does : (calls : Calls) (i : Case) → CodeArm plan (clean i) calls n a d r.join.pc extra (Pre i) (λ left. eb calls left (env i)) t r.into.slots

  done : (m : ℕ) → d ≡ with_join (record q { slots = m }) r.into.slots hy.slots → r.join.pc ≡ length q.code + length (copies r.into.slots hy.slots) → q.slots ≤ m
      → AreShared n m (words_needed plan t) r.into.slots → ((x : ℕ) → q.slots ≤ x → x < m → IsOneOf x r.into.slots) → SlotsAreApart r.into.slots hy.slots → IsArm
  done m code join room sh new apart =
      let zs = r.into.slots in
      let w = with_join (record q { slots = m }) zs hy.slots in
      let ys_low = AllBelow-more q.slots m hy.slots room body.given in
      let adds0 = Adds-trans plan a q w (Adds-trans plan a b q ab body.adds) (joining_adds plan q m zs hy.slots room sh.below ys_low (sh.count ∙ sym body.count) new) in
      record {
        adds = subst (λ (k : Sheet). Adds plan a k) (sym code) adds0;
        shared = record { from = sh.from; below = subst (λ (k : Sheet). AllBelow k.slots zs) (sym code) sh.below; distinct = sh.distinct; count = sh.count };
        does = λ calls i.
            subst (λ (k : Sheet). CodeArm plan (clean i) calls n a k r.join.pc extra (Pre i) (λ left. eb calls left (env i)) t zs) (sym code)
            (subst (λ k. CodeArm plan (clean i) calls n a w k extra (Pre i) (λ left. eb calls left (env i)) t zs) (sym join)
            (arm plan (clean i) calls n t a b q inner hy.slots (Pre i) (env i) eb extra m zs room sh.from sh.below sh.distinct sh.count new (bind i) body apart));
      }

  -- the first arm: its slots are new
  pub arm_first : JoinedIs None hy q d r → IsArm
  arm_first j =
      let k = length hy.slots in
      let slots : r.into.slots ≡ slots_from q.slots k = ap (λ (h : Held). h.slots) j.shared in
      let ge : n ≤ q.slots = omega (arith, below_a, ab.more, body.adds.more) in
      done (q.slots + k) j.code (ap (λ (h : Hole). h.pc) j.join) (omega arith)
      (record {
        from = subst (λ l. AllFrom n l) (sym slots) (slots_from-from n q.slots k ge);
        below = subst (λ l. AllBelow (q.slots + k) l) (sym slots) (slots_from-below q.slots k (q.slots + k) (omega arith));
        distinct = subst IsDistinct (sym slots) (slots_from-distinct q.slots k);
        count = ap length slots ∙ slots_from-length q.slots k ∙ body.count;
      })
      (λ x lo hi. subst (λ l. IsOneOf x l) (sym slots) (slots_from-has q.slots k x lo hi))
      (λ x i y. let le = slots_from-above q.slots k x (subst (λ l. IsOneOf x l) slots i) in let lt = one-below q.slots x hy.slots body.given y in absurd (omega (arith, le, lt)))

  -- a later one: they are those of the arms before it
  pub arm_later : (h : Held) → AreShared n a.slots (words_needed plan t) h.slots → JoinedIs (Some h) hy q d r → IsArm
  arm_later h sh j =
      let slots : r.into.slots ≡ h.slots = ap (λ (k : Held). k.slots) j.shared in
      let up : a.slots ≤ q.slots = omega (arith, ab.more, body.adds.more) in
      done q.slots j.code (ap (λ (k : Hole). k.pc) j.join) (omega arith)
      (record {
        from = subst (λ l. AllFrom n l) (sym slots) sh.from;
        below = subst (λ l. AllBelow q.slots l) (sym slots) (AllBelow-more a.slots q.slots h.slots up sh.below);
        distinct = subst IsDistinct (sym slots) sh.distinct;
        count = ap length slots ∙ sh.count;
      })
      (λ x lo hi. absurd (omega (arith, lo, hi)))
      (λ x i y.
      let i1 = subst (λ l. IsOneOf x l) slots i in
      let lo = one-from n x h.slots sh.from i1 in let hi = one-below a.slots x h.slots sh.below i1 in
      elim (outside x y) [ inl lt ↦ absurd (omega (arith, lt, lo)) | inr le ↦ absurd (omega (arith, le, hi)) ])
