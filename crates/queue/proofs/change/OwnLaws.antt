-- Which inputs are owned: the flags, the rows, and the loops over them. Assumes nothing.
use Rattle.std.specs.Prelude.{◌≡◌, refl, Bool, true, false, cond, ◌&&◌, ◌||◌, List, [], ◌∷◌, ◌++◌, ℕ, zero, suc, ◌+◌, ◌-◌, ◌≤◌, ◌<◌, eqb, length, take, drop, get_or, set}
use Rattle.std.proofs.Common.{ap, sym, ◌∙◌, append_assoc, arith, add-one, length-append, length-drop, drop-cons, drop-drop, take-suc-set, take_all, eq-eqb, ne_eqb, eqb-true}
use Rattle.std.proofs.Math.Seq.{take-append_seam, drop-append_seam}
use Rattle.queue.specs.Basics.{and_same, cons_same, or_assoc, or_more, any_append, among_append}
use Rattle.queue.specs.Codec.{cases}
use Rattle.queue.specs.Lists.{and_true}
use Rattle.queue.specs.layout.FrameCodec.{rec_c, id_c}
use Rattle.queue.specs.layout.FormsCodec.{form_c, after_in_value}
use Rattle.queue.specs.bytes.ViewAs.{view}
use Rattle.queue.specs.bytes.Parts.{part}
use Rattle.queue.specs.bytes.ReaderAs.{Found, whole, list_at}
use Rattle.queue.specs.bytes.ReaderLaws.{Turn, none_left, false_true}
use Rattle.queue.specs.layout.FrameAs.{facts_of, SeenAs}
use Rattle.queue.specs.bytes.OrderLaws.{same_self, same_is}
use Rattle.queue.specs.check.FilterAs.{hash_l, marked, mark_l}
use Rattle.queue.specs.check.SuspectsAs.{id_r, no_r, later, Shuffled}
use Rattle.queue.specs.change.TouchAs.{own_ids}
use Rattle.queue.specs.change.OwnAs.{wanted_of, wanted_at, set?, bits_in, Fits, mark_all_value, miss_all, flags_of, FlagsAre, FlagsFrom, Noted, Covering, Settled, Taken, QuickFor}
use Rattle.queue.specs.paper.Records.{Bytes, Id, Rec}
use Rattle.queue.specs.paper.Lists.{one, any?, all?}
use Rattle.queue.specs.paper.Ids.{same?}
use Rattle.queue.specs.paper.Sound.{inputs, outputs, reads, wanted, among?}
use Rattle.queue.specs.paper.Changing.{queued_outputs}
use Rattle.queue.specs.declared.layout.frame.Seen.{Seen}
use Rattle.queue.proofs.layout.TurnLaws.{Scan, start, here, on, end, SeenIn, FoundRec, see}
use Rattle.queue.proofs.check.ScanLaws.{nothing_f}
use Rattle.queue.proofs.check.FilterLaws.{mark_size, mark_here, mark_old}
use Rattle.queue.proofs.check.SuspectsLaws.{id_bytes, shuffled_any}
use Rattle.queue.proofs.change.TouchLaws.{out_f, out_turn, wanted_is}

-- ---- flags by place
set_there : (pre : List ℕ) (b x : ℕ) (r : List ℕ) → set (pre ++ (b ∷ r)) (length pre) x ≡ pre ++ (x ∷ r)
set_there [] b x r = refl
set_there (a ∷ pre) b x r = ap (λ l. a ∷ l) (set_there pre b x r)

mark_over : (q : Id → Bool) (c : Id → Bool) (l : List Id) (pre post : List ℕ) → mark_all_value q l (pre ++ (flags_of c l ++ post)) (length pre) ≡ pre ++ (flags_of (λ z. c z || q z) l ++ post)
unfolding mark_all_value flags_of
mark_over q c [] pre post = refl
mark_over q c (z ∷ l) pre post =
    let x = one (c z || q z) in
    let r = flags_of c l ++ post in
    let n : length pre + 1 ≡ length (pre ++ (x ∷ [])) = sym (length-append pre (x ∷ [])) in
    let i = mark_over q c l (pre ++ (x ∷ [])) post in
    rw (turn (q z) (c z) r, ← (append_assoc pre (x ∷ []) r), n) (i ∙ append_assoc pre (x ∷ []) (flags_of (λ z. c z || q z) l ++ post))
  where
    turn : (a b : Bool) (r : List ℕ) → cond a (set (pre ++ (one b ∷ r)) (length pre) 1) (pre ++ (one b ∷ r)) ≡ pre ++ (one (b || a) ∷ r)
    turn true true r = set_there pre 1 1 r
    turn true false r = set_there pre 0 1 r
    turn false true r = refl
    turn false false r = refl

flags_long : (c : Id → Bool) (l : List Id) → length (flags_of c l) ≡ length l
unfolding flags_of
flags_long c [] = refl
flags_long c (z ∷ l) = ap suc (flags_long c l)

flags_ones : (c : Id → Bool) (a : List Id) → all? set? (flags_of c a) ≡ all? c a
unfolding flags_of
flags_ones c [] = refl
flags_ones c (z ∷ a) = cases (c z) (λ t. rw t (flags_ones c a)) (λ t. rw t)

pub later_flags : (q : Id → Bool) (f : List ℕ) (l : List Id) (c : Id → Bool) {f' : List ℕ} → FlagsAre c l f → f' ≡ mark_all_value q l f 0 → FlagsAre (λ z. c z || q z) l f'
later_flags q f l c g e = record { more = g.more; is = e ∙ ap (λ k. mark_all_value q l k 0) g.is ∙ mark_over q c l [] g.more }

or_true : (a : Bool) → (a || true) ≡ true
or_true true = refl
or_true false = refl

flags_same : (c d : Id → Bool) (l : List Id) (f : List ℕ) → ((z : Id) → among? z l ≡ true → c z ≡ d z) → FlagsAre c l f → FlagsAre d l f
unfolding flags_of
flags_same c d l f h g = record { more = g.more; is = g.is ∙ ap (λ k. k ++ g.more) (go l h) }
  where
    go : (l : List Id) → ((z : Id) → among? z l ≡ true → c z ≡ d z) → flags_of c l ≡ flags_of d l
    go [] h = refl
    go (z ∷ l) h = cons_same (ap one (h z (rw (same_self z)))) (go l (λ y e. h y (rw e (or_true (same? y z)))))

-- ---- rows shuffled

-- ---- covering
module _ (s : Bytes) (l : List Id) where
  pub settled : (f v : List ℕ) {v' f' : List ℕ} → Shuffled v v' → f' ≡ mark_all_value (λ z. any? (later false s z 0) v') l f 0 → Settled s l f v f' v'
  settled f v {v'} {f'} k e = record {
    kept = k;
    on = λ t all rest c. record {
      done = λ z. c.done z || any? (later false s z 0) v';
      flags = later_flags (λ z. any? (later false s z 0) v') f l c.done c.flags e;
      same = λ z i. regroup (c.done z) (any? (later false s z 0) v') (rest z) ∙ ap (λ b. c.done z || (b || rest z)) (shuffled_any (later false s z 0) k) ∙ c.same z i;
      new = λ z i h. c.new z i (first (c.done z) (any? (later false s z 0) v') h);
    };
  }
    where
      regroup : (a b c : Bool) → ((a || b) || (false || c)) ≡ (a || (b || c))
      regroup true b c = refl
      regroup false b c = refl

      first : (a b : Bool) → (a || b) ≡ false → a ≡ false
      first true b h = h
      first false b h = refl

module _ (s : Bytes) (l : List Id) (t : List ℕ) where
  cover_to : {all rest rest' : Id → Bool} {f v : List ℕ} → ((z : Id) → rest z ≡ rest' z) → Covering s l t all f v rest → Covering s l t all f v rest'
  cover_to {all} {rest} {rest'} {f} {v} h c = record { done = c.done; flags = c.flags; same = λ z i. ap (λ b. c.done z || (any? (later false s z 0) v || b)) (sym (h z)) ∙ c.same z i; new = c.new }

  pub row_room : (f v : List ℕ) (k w : ℕ) {v' : List ℕ} → k < length v → v' ≡ set v k w → Taken s l t f (take k v) (λ z. later false s z 0 w) f (take (k + 1) v')
  row_room f v k w {v'} h e = record {
    on = λ all rest c. record {
      done = c.done;
      flags = c.flags;
      same = λ z i. ap (λ b. c.done z || (b || rest z)) (ap (any? (later false s z 0)) part ∙ any_append (later false s z 0) (take k v) (w ∷ [])) ∙ ap (λ b. c.done z || b) (or_more (any? (later false s z 0) (take k v)) (later false s z 0 w) (rest z)) ∙ c.same z i;
      new = c.new;
    };
  }
    where
      part : take (k + 1) v' ≡ take k v ++ (w ∷ [])
      part = ap (take (k + 1)) e ∙ rw add-one (take-suc-set v k w h)

  pub row_new_law : (f v : List ℕ) (k w : ℕ) {f' v' v'' : List ℕ} → length v ≤ k → Settled s l f v f' v' → 0 < length v' → v'' ≡ set v' 0 w → Taken s l t f (take k v) (λ z. later false s z 0 w) f' (take 1 v'')
  row_new_law f v k w {f'} {v'} {v''} h u p e = record {
    on = λ all rest c.
        let d : Covering s l t all f v (λ z. later false s z 0 w || rest z) = rw (take_all k v h) at c in
        (row_room f' v' 0 w p e).on all rest (u.on t all (λ z. later false s z 0 w || rest z) d);
  }

  -- what the filter has not is no id of l without a flag
  pub row_unseen : (f v : List ℕ) (w : ℕ) {h : ℕ} {b : Bool} → h ≡ hash_l (id_r false s w) → b ≡ marked t h → b ≡ false → Taken s l t f v (λ z. later false s z 0 w) f v
  unfolding later
  row_unseen f v w {h} {b} e q n = record {
    on = λ all rest c. record {
      done = c.done;
      flags = c.flags;
      same = λ z i. cases (c.done z)
          (λ d. rw d (rw d at (c.same z i)))
          (λ d. ap (λ a. c.done z || (any? (later false s z 0) v || a)) (sym (ap (λ a. a || rest z) (off z (c.new z i d)))) ∙ c.same z i);
      new = c.new;
    };
  }
    where
      off : (z : Id) → marked t (hash_l z) ≡ true → later false s z 0 w ≡ false
      off z k = cases (same? z (id_r false s w))
          (λ u. false_true (sym n ∙ q ∙ ap (marked t) e ∙ ap (λ y. marked t (hash_l y)) (sym (same_is z (id_r false s w) u)) ∙ k))
          (λ u. rw u)

  -- ids of one record
  pub record Adding (b : Bytes) (n at : ℕ) (f₀ v₀ f v : List ℕ) (i left : ℕ) : Type 0 where
    pub scan : Scan id_c (λ (u : Unit {0}) (x : List Id). u) b n at tt i left tt
    pub on : (all rest : Id → Bool) → Covering s l t all f₀ v₀ (λ z. among? z (list_at id_c n b at) || rest z) → Covering s l t all f v (λ z. among? z (list_at id_c left b i) || rest z)

  pub adding : (b : Bytes) (n at : ℕ) (f v : List ℕ) → at ≤ length b → whole id_c n b at ≡ true → Adding b n at f v f v at n
  adding b n at f v h w = record { scan = start id_c _ b n at tt h w; on = λ all rest c. c }

  later_is : (w : ℕ) (y : Id) → id_r false s w ≡ y → no_r w ≡ 1 → (z : Id) → later false s z 0 w ≡ same? z y
  unfolding later
  later_is w y e f z = rw (e, f) (cases (same? z y) (λ t. rw t) (λ t. rw t))

  module _ {b : Bytes} {n at : ℕ} {f₀ v₀ f v : List ℕ} {i left : ℕ} (x : Adding b n at f₀ v₀ f v i left) where
    pub add_go : {next : ℕ} (w : ℕ) {y : Id} {f' v' : List ℕ} → 0 < left → Found id_c b i next (λ a. a ≡ y) → id_r false s w ≡ part 32 b i → no_r w ≡ 1 → Taken s l t f v (λ z. later false s z 0 w) f' v' → Adding b n at f₀ v₀ f' v' next (left - 1)
    add_go {next} w {y} h r e g k =
        let u = here x.scan h r in
        let q = later_is w u.item (e ∙ (id_bytes u).0 ∙ sym u.is) g in
        record {
          scan = on x.scan tt h u refl;
          on = λ all rest c. k.on all (λ z. among? z (list_at id_c (left - 1) b next) || rest z) (cover_to (λ z. ap (λ k. among? z k || rest z) u.list ∙ or_assoc (same? z u.item) (among? z (list_at id_c (left - 1) b next)) (rest z) ∙ ap (λ k. k || (among? z (list_at id_c (left - 1) b next) || rest z)) (sym (q z))) (x.on all rest c));
        }

    pub add_end : left ≡ 0 → Taken s l t f₀ v₀ (λ z. among? z (list_at id_c n b at)) f v
    add_end e = record { on = λ all rest c. cover_to (λ z. ap (λ k. among? z k || rest z) (none_left id_c b left i e).0) (x.on all rest c) }

  pub skipped : (f v : List ℕ) (x : Seen) (own : Id → Bool) → (x.facts.state ≡ 0 → ⊥) → Taken s l t f v (λ z. eqb x.facts.state 0 && own z) f v
  skipped f v x own h = record { on = λ all rest c. cover_to (λ z. ap (λ b. (b && own z) || rest z) (ne_eqb x.facts.state 0 h)) c }

  pub queued_in : (f v : List ℕ) (x : Seen) (own : Id → Bool) {f' v' : List ℕ} → x.facts.state ≡ 0 → Taken s l t f v own f' v' → Taken s l t f v (λ z. eqb x.facts.state 0 && own z) f' v'
  queued_in f v x own h k = record { on = λ all rest c. k.on all rest (cover_to (λ z. ap (λ b. (b && own z) || rest z) (eq-eqb x.facts.state 0 h)) c) }

  -- all records
  pub record Queuing (n at : ℕ) (f₀ f v : List ℕ) (i left : ℕ) : Type 0 where
    pub scan : Scan (form_c false rec_c) (λ (u : Unit {0}) (x : List Rec). u) s n at tt i left tt
    pub on : (all rest : Id → Bool) → Covering s l t all f₀ [] (λ z. among? z (queued_outputs (list_at (form_c false rec_c) n s at)) || rest z) → Covering s l t all f v (λ z. among? z (queued_outputs (list_at (form_c false rec_c) left s i)) || rest z)

  pub queuing : (n at : ℕ) (f : List ℕ) → at ≤ length s → whole (form_c false rec_c) n s at ≡ true → Queuing n at f f [] at n
  queuing n at f h w = record { scan = start (form_c false rec_c) _ s n at tt h w; on = λ all rest c. c }

  module _ {n at : ℕ} {f₀ f v : List ℕ} {i left : ℕ} (x : Queuing n at f₀ f v i left) where
    pub queue_go : {m j : ℕ} {y : Seen} {f' v' : List ℕ} → 0 < left → FoundRec false s i m y → j ≡ after_in_value false s i m → Taken s l t f v (λ z. eqb y.facts.state 0 && among? z (list_at id_c y.facts.outs (view false s i) y.outs)) f' v' → Queuing n at f₀ f' v' j (left - 1)
    unfolding facts_of out_f
    queue_go {m} {j} {y} h r g k' =
        let u = see false x.scan h r g in
        let w = u.is.0 in
        record {
          scan = on x.scan tt h u refl;
          on = λ all rest c. k'.on all (λ z. among? z (queued_outputs (list_at (form_c false rec_c) (left - 1) s j)) || rest z) (cover_to (λ z.
              ap (λ k. among? z (queued_outputs k) || rest z) u.list ∙ ap (λ k. k || rest z) (out_turn z u.item (list_at (form_c false rec_c) (left - 1) s j))
              ∙ or_assoc (eqb u.item.state 0 && among? z (outputs u.item.body)) (among? z (queued_outputs (list_at (form_c false rec_c) (left - 1) s j))) (rest z)
              ∙ ap (λ k. k || (among? z (queued_outputs (list_at (form_c false rec_c) (left - 1) s j)) || rest z)) (and_same (ap (λ q. eqb q.state 0) (sym w.facts)) (ap (among? z) (sym w.outs_list)))) (x.on all rest c));
        }

    pub queue_end : left ≡ 0 → Taken s l t f₀ [] (λ z. among? z (queued_outputs (list_at (form_c false rec_c) n s at))) f v
    queue_end e = record { on = λ all rest c. cover_to (λ z. ap (λ k. among? z (queued_outputs k) || rest z) (none_left (form_c false rec_c) s left i e).0) (x.on all rest c) }

  -- at first, and at the end
  covered : {all : Id → Bool} {f : List ℕ} → Covering s l t all f [] (λ z. false) → FlagsAre all l f
  covered {all} {f} c = flags_same c.done all l f (λ z i. regroup (c.done z) ∙ c.same z i) c.flags
    where
      regroup : (a : Bool) → a ≡ (a || (false || false))
      regroup true = refl
      regroup false = refl

  module _ (recs : List Rec) {f : List ℕ} (ids : List Id) (h : Noted (λ z. among? z ids) l f t) where
    begun : Covering s l t (λ z. among? z (own_ids ids recs)) (bits_in f) [] (λ z. among? z (queued_outputs recs) || false)
    unfolding own_ids
    begun = record { done = λ z. among? z ids; flags = h.are; same = λ z _. regroup (among? z ids) (among? z (queued_outputs recs)) ∙ sym (among_append z ids (queued_outputs recs)); new = h.new }
      where
        regroup : (a b : Bool) → (a || (false || (b || false))) ≡ (a || b)
        regroup true b = refl
        regroup false true = refl
        regroup false false = refl

    pub owned_all : {b : Bool} {n : ℕ} → n ≡ length l → b ≡ all? set? (take n (bits_in f)) → b ≡ true → FlagsAre (λ z. among? z (own_ids ids recs)) l (bits_in f)
    unfolding own_ids
    owned_all {b} {n} u e k = flags_same (λ z. among? z ids) (λ z. among? z (own_ids ids recs)) l (bits_in f) (λ z i.
        let a = all_in l (sym (flags_ones (λ z. among? z ids) l) ∙ sym (ap (λ k. all? set? (take k (bits_in f))) u ∙ ap (all? set?) (ap (take (length l)) h.are.is ∙ front)) ∙ sym e ∙ k) z i in
        a ∙ sym (rw (among_append z ids (queued_outputs recs), a))) h.are
      where
        front : take (length l) (flags_of (λ z. among? z ids) l ++ h.are.more) ≡ flags_of (λ z. among? z ids) l
        front = ap (λ n. take n (flags_of (λ z. among? z ids) l ++ h.are.more)) (sym (flags_long (λ z. among? z ids) l)) ∙ take-append_seam (flags_of (λ z. among? z ids) l) h.are.more

        all_in : (l : List Id) → all? (λ z. among? z ids) l ≡ true → (z : Id) → among? z l ≡ true → among? z ids ≡ true
        all_in [] e z i = absurd (false_true i)
        all_in (y ∷ l) e z i =
            let u = and_true (among? y ids) (all? (λ z. among? z ids) l) e in
            cases (same? z y)
            (λ k. rw (same_is z y k) u.0)
            (λ k. all_in l u.1 z (rw k at i))

    pub owned_none : {f₁ : List ℕ} (v : List ℕ) {k : ℕ} → k ≡ 0 → Taken s l t (bits_in f) [] (λ z. among? z (queued_outputs recs)) f₁ (take k v) → FlagsAre (λ z. among? z (own_ids ids recs)) l f₁
    owned_none {f₁} v {k} e u = covered (rw e at (u.on (λ z. among? z (own_ids ids recs)) (λ z. false) begun))

    pub owned_in : {f₁ v f₂ v' : List ℕ} → Taken s l t (bits_in f) [] (λ z. among? z (queued_outputs recs)) f₁ v → Settled s l f₁ v f₂ v' → FlagsAre (λ z. among? z (own_ids ids recs)) l f₂
    owned_in {f₁} {v} {f₂} {v'} k u = covered (u.on t (λ z. among? z (own_ids ids recs)) (λ z. false) (k.on (λ z. among? z (own_ids ids recs)) (λ z. false) begun))

-- ---- the flag of one id
set_again : (f : List ℕ) (g : ℕ) → get_or f g 0 ≡ 1 → set f g 1 ≡ f
set_again [] g e = refl
set_again (x ∷ f) zero e = ap (λ y. y ∷ f) (sym e)
set_again (x ∷ f) (suc g) e = ap (λ y. x ∷ y) (set_again f g e)

module _ (s : Bytes) (v : List ℕ) (z : Id) (f : List ℕ) (g : ℕ) where
  pub id_set : {b : Bool} → b ≡ set? (get_or f g 0) → b ≡ true → f ≡ cond (any? (later false s z 0) v) (set f g 1) f
  id_set {b} e k = let h = set_again f g (eqb-true (get_or f g 0) 1 (sym e ∙ k)) in cases (any? (later false s z 0) v) (λ u. rw u (sym h)) (λ u. rw u)

  pub id_row : {r : Bool} {f' : List ℕ} (y : ℕ) → id_r false s y ≡ z → no_r y ≡ 0 → r ≡ any? (later false s (id_r false s y) (no_r y)) v → r ≡ true → f' ≡ set f g 1 → f' ≡ cond (any? (later false s z 0) v) (set f g 1) f
  id_row {r} y e n q k h = let q' : r ≡ any? (later false s z 0) v = rw (e, n) at q in h ∙ rw (sym q' ∙ k)

  pub id_none : {r : Bool} (y : ℕ) → id_r false s y ≡ z → no_r y ≡ 0 → r ≡ any? (later false s (id_r false s y) (no_r y)) v → r ≡ false → f ≡ cond (any? (later false s z 0) v) (set f g 1) f
  id_none {r} y e n q k = let q' : r ≡ any? (later false s z 0) v = rw (e, n) at q in rw (sym q' ∙ k)

-- ---- the loops over flags
unfoldable pub mark_f : (Id → Bool) → List ℕ × ℕ → List Id → List ℕ
mark_f p st l = mark_all_value p l st.0 st.1

module _ (p : Id → Bool) {v : Bytes} {n at i left g : ℕ} {f f₀ : List ℕ} {g₀ : ℕ} (x : Scan id_c (mark_f p) v n at (f₀, g₀) i left (f, g)) where
  pub mark_go : (k : Bool) {next : ℕ} {y : Id} {f' : List ℕ} → 0 < left → Found id_c v i next (λ a. a ≡ y) → k ≡ p y → f' ≡ cond k (set f g 1) f → Scan id_c (mark_f p) v n at (f₀, g₀) next (left - 1) (f', g + 1)
  unfolding mark_f mark_all_value
  mark_go k {next} {y} {f'} h r q e = let t = here x h r in on x (f', g + 1) h t (rw (t.is, e, q))

  pub mark_end : left ≡ 0 → f ≡ mark_all_value p (list_at id_c n v at) f₀ g₀
  unfolding mark_f mark_all_value
  mark_end e = end x e

mark_append : (p : Id → Bool) (a b : List Id) (f : List ℕ) (g : ℕ) → mark_all_value p (a ++ b) f g ≡ mark_all_value p b (mark_all_value p a f g) (g + length a)
unfolding mark_all_value
mark_append p [] b f g = let e : g + 0 ≡ g = omega arith in rw e
mark_append p (z ∷ a) b f g = let e : g + 1 + length a ≡ g + suc (length a) = omega arith in mark_append p a b (cond (p z) (set f g 1) f) (g + 1) ∙ rw e

unfoldable pub mark_r : (Id → Bool) → List ℕ × ℕ → List Rec → List ℕ
mark_r p st l = mark_all_value p (wanted_of l) st.0 st.1

pub wants_long : {s : Bytes} {y : Seen} {r : Rec} → SeenAs s y r → y.facts.ins + y.facts.reads ≡ length (wanted r.body)
unfolding facts_of
wants_long {r = r} w = let a = ap (λ q. q.ins) w.facts in let b = ap (λ q. q.reads) w.facts in let c = length-append (inputs r.body) (reads r.body) in omega arith

pub ins_long : {s : Bytes} {y : Seen} {r : Rec} → SeenAs s y r → length (list_at id_c y.facts.ins s y.at) ≡ y.facts.ins
unfolding facts_of
ins_long w = ap length w.ins_list ∙ sym (ap (λ q. q.ins) w.facts)

wanted_cut : (r : Rec) (l : List Rec) → wanted_of (r ∷ l) ≡ wanted r.body ++ wanted_of l
unfolding wanted_of
wanted_cut r l = refl

module _ (p : Id → Bool) {s : Bytes} {n at i left g : ℕ} {f f₀ : List ℕ} (x : Scan (form_c false rec_c) (mark_r p) s n at (f₀, 0) i left (f, g)) where
  module _ (h : 0 < left) {m : ℕ} {y : Seen} (r : FoundRec false s i m y) where
    pub marks_room : {j : ℕ} → j ≡ after_in_value false s i m → length (wanted_of (list_at (form_c false rec_c) left s i)) ≡ y.facts.ins + y.facts.reads + length (wanted_of (list_at (form_c false rec_c) (left - 1) s j))
    marks_room {j} q =
        let t = see false x h r q in
        let l = list_at (form_c false rec_c) (left - 1) s j in
        ap (λ k. length (wanted_of k)) t.list ∙ ap length (wanted_cut t.item l) ∙ length-append (wanted t.item.body) (wanted_of l) ∙ ap (λ k. k + length (wanted_of l)) (sym (wants_long t.is.0))

    pub marks_go : {j : ℕ} {f' f'' : List ℕ} → j ≡ after_in_value false s i m → f' ≡ mark_all_value p (list_at id_c y.facts.ins (view false s i) y.at) f g → f'' ≡ mark_all_value p (list_at id_c y.facts.reads (view false s i) y.reads) f' (g + y.facts.ins)
        → Scan (form_c false rec_c) (mark_r p) s n at (f₀, 0) j (left - 1) (f'', g + y.facts.ins + y.facts.reads)
    unfolding mark_r
    marks_go {j} {f'} {f''} q e d =
        let t = see false x h r q in
        let w = t.is.0 in
        let both : f'' ≡ mark_all_value p (wanted t.item.body) f g = d ∙ two (list_at id_c y.facts.reads (view false s i) y.reads) e (ap (λ k. g + k) (sym (ins_long w))) ∙ sym (mark_append p (list_at id_c y.facts.ins (view false s i) y.at) (list_at id_c y.facts.reads (view false s i) y.reads) f g) ∙ ap (λ k. mark_all_value p k f g) (wanted_is w) in
        let n : g + y.facts.ins + y.facts.reads ≡ g + length (wanted t.item.body) = let z = wants_long w in omega arith in
        on x (f'', g + y.facts.ins + y.facts.reads) h t (ap (λ k. mark_all_value p k f g) (wanted_cut t.item (list_at (form_c false rec_c) (left - 1) s j)) ∙ mark_append p (wanted t.item.body) (wanted_of (list_at (form_c false rec_c) (left - 1) s j)) f g ∙ two (wanted_of (list_at (form_c false rec_c) (left - 1) s j)) (sym both) (sym n))
      where
        two : (l : List Id) {a a' : List ℕ} {b b' : ℕ} → a ≡ a' → b ≡ b' → mark_all_value p l a b ≡ mark_all_value p l a' b'
        two l e f = cc

  pub marks_end : left ≡ 0 → f ≡ mark_all_value p (wanted_of (list_at (form_c false rec_c) n s at)) f₀ 0
  unfolding mark_r mark_all_value wanted_of
  marks_end e = end x e

-- ---- the ids that are not available, in the filter
unfoldable pub miss_f : (Id → Bool) → List ℕ → List Id → List ℕ
miss_f p t l = miss_all p l t

module _ (p : Id → Bool) {v : Bytes} {n at i left : ℕ} {t t₀ : List ℕ} (x : Scan id_c (miss_f p) v n at t₀ i left t) where
  pub miss_go : (k : Bool) {next : ℕ} {y : Id} {t' : List ℕ} → 0 < left → Found id_c v i next (λ a. a ≡ y) → k ≡ p y → t' ≡ cond k t (mark_l t (hash_l y)) → Scan id_c (miss_f p) v n at t₀ next (left - 1) t'
  unfolding miss_f miss_all
  miss_go k {next} {y} {t'} h r q e = let u = here x h r in on x t' h u (rw (u.is, e, q))

  pub miss_end : left ≡ 0 → t ≡ miss_all p (list_at id_c n v at) t₀
  unfolding miss_f miss_all
  miss_end e = end x e

miss_append : (p : Id → Bool) (a b : List Id) (t : List ℕ) → miss_all p (a ++ b) t ≡ miss_all p b (miss_all p a t)
unfolding miss_all
miss_append p [] b t = refl
miss_append p (z ∷ a) b t = miss_append p a b (cond (p z) t (mark_l t (hash_l z)))

unfoldable pub miss_r : (Id → Bool) → List ℕ → List Rec → List ℕ
miss_r p t l = miss_all p (wanted_of l) t

module _ (p : Id → Bool) {s : Bytes} {n at i left : ℕ} {t t₀ : List ℕ} (x : Scan (form_c false rec_c) (miss_r p) s n at t₀ i left t) where
  pub misses_go : {m j : ℕ} {y : Seen} {t' t'' : List ℕ} → 0 < left → FoundRec false s i m y → j ≡ after_in_value false s i m → t' ≡ miss_all p (list_at id_c y.facts.ins (view false s i) y.at) t → t'' ≡ miss_all p (list_at id_c y.facts.reads (view false s i) y.reads) t'
      → Scan (form_c false rec_c) (miss_r p) s n at t₀ j (left - 1) t''
  unfolding miss_r
  misses_go {m} {j} {y} {t'} {t''} h r q e d =
      let u = see false x h r q in
      let l = list_at (form_c false rec_c) (left - 1) s j in
      let both : t'' ≡ miss_all p (wanted u.item.body) t = d ∙ ap (miss_all p (list_at id_c y.facts.reads (view false s i) y.reads)) e ∙ sym (miss_append p (list_at id_c y.facts.ins (view false s i) y.at) (list_at id_c y.facts.reads (view false s i) y.reads) t) ∙ ap (λ k. miss_all p k t) (wanted_is u.is.0) in
      on x t'' h u (ap (λ k. miss_all p k t) (wanted_cut u.item l) ∙ miss_append p (wanted u.item.body) (wanted_of l) t ∙ ap (miss_all p (wanted_of l)) (sym both))

  pub misses_end : left ≡ 0 → t ≡ miss_all p (wanted_of (list_at (form_c false rec_c) n s at)) t₀
  unfolding miss_r miss_all wanted_of
  misses_end e = end x e

pub miss_size : (p : Id → Bool) (l : List Id) (t : List ℕ) → length (miss_all p l t) ≡ length t
unfolding miss_all
miss_size p [] t = refl
miss_size p (z ∷ l) t = miss_size p l (cond (p z) t (mark_l t (hash_l z))) ∙ cases (p z) (λ k. rw k) (λ k. rw k (mark_size t (hash_l z)))

miss_old : (p : Id → Bool) (l : List Id) (t : List ℕ) → 0 < length t → (h : ℕ) → marked t h ≡ true → marked (miss_all p l t) h ≡ true
unfolding miss_all
miss_old p [] t n h e = e
miss_old p (z ∷ l) t n h e = cases (p z)
    (λ k. rw k (miss_old p l t n h e))
    (λ k. rw k (miss_old p l (mark_l t (hash_l z)) (rw (mark_size t (hash_l z)) n) h (mark_old t (hash_l z) n h e)))

miss_new : (p : Id → Bool) (l : List Id) (t : List ℕ) → 0 < length t → (z : Id) → among? z l ≡ true → p z ≡ false → marked (miss_all p l t) (hash_l z) ≡ true
unfolding miss_all
miss_new p [] t n z i e = absurd (false_true i)
miss_new p (y ∷ l) t n z i e =
    let t' = cond (p y) t (mark_l t (hash_l y)) in
    let n' : 0 < length t' = cases (p y) (λ k. rw k n) (λ k. rw (k, mark_size t (hash_l y)) n) in
    cases (same? z y)
    (λ k. let f = same_is z y k in
    let h : p y ≡ false = rw f at e in
    miss_old p l t' n' (hash_l z) (rw (f, h) (mark_here t (hash_l y) n)))
    (λ k. miss_new p l t' n' z (rw k at i) e)

-- ---- how many wanted ids
unfoldable pub wanted_from : ℕ → List Rec → ℕ
wanted_from acc l = acc + length (wanted_of l)

module _ {s : Bytes} {n at i left acc : ℕ} (x : Scan (form_c false rec_c) wanted_from s n at 0 i left acc) where
  pub wanted_go : {m j : ℕ} {y : Seen} → 0 < left → FoundRec false s i m y → j ≡ after_in_value false s i m → Scan (form_c false rec_c) wanted_from s n at 0 j (left - 1) (acc + (y.facts.ins + y.facts.reads))
  unfolding wanted_from
  wanted_go {m} {j} {y} h r g =
      let t = see false x h r g in
      let l = list_at (form_c false rec_c) (left - 1) s j in
      on x (acc + (y.facts.ins + y.facts.reads)) h t (let a = ap length (wanted_cut t.item l) in let b = length-append (wanted t.item.body) (wanted_of l) in let c = wants_long t.is.0 in omega arith)

  pub wanted_end : left ≡ 0 → acc ≡ length (wanted_of (list_at (form_c false rec_c) n s at))
  unfolding wanted_from wanted_of
  wanted_end e = let k = end x e in omega arith

-- ---- are flags set
set_cut : (f : List ℕ) (i left : ℕ) → 0 < left → i < length f → all? set? (take left (drop i f)) ≡ (eqb (get_or f i 0) 1 && all? set? (take (left - 1) (drop (i + 1) f)))
set_cut f i left h k = let e : left ≡ suc (left - 1) = omega arith in rw (drop-cons f i 0 k, add-one i) (ap (λ n. all? set? (take n (get_or f i 0 ∷ drop (suc i) f))) e)

module _ (f : List ℕ) (i left : ℕ) {r : Bool} (e : all? set? (take left (drop i f)) ≡ r) where
  pub set_stop : {b : Bool} → 0 < left → i < length f → b ≡ set? (get_or f i 0) → b ≡ false → false ≡ r
  set_stop h k q n = sym (set_cut f i left h k ∙ rw (sym q ∙ n)) ∙ e

  pub set_go : {b : Bool} → 0 < left → i < length f → b ≡ set? (get_or f i 0) → b ≡ true → all? set? (take (left - 1) (drop (i + 1) f)) ≡ r
  set_go h k q n = sym (set_cut f i left h k ∙ rw (sym q ∙ n)) ∙ e

  pub set_end : left ≡ 0 → true ≡ r
  set_end z = sym (ap (λ n. all? set? (take n (drop i f))) z) ∙ e

module _ (c : Id → Bool) (b : List Id) where
  flags_split : (a : List Id) → flags_of c (a ++ b) ≡ flags_of c a ++ flags_of c b
  unfolding flags_of
  flags_split [] = refl
  flags_split (z ∷ a) = ap (λ k. one (c z) ∷ k) (flags_split a)

  flags_cut : (a : List Id) (f : List ℕ) (m : ℕ) → m ≡ length a → FlagsAre c (a ++ b) f → (all? set? (take m f) ≡ all? c a) × FlagsAre c b (drop m f) × (m ≤ length f)
  flags_cut a f m h g =
      let x = flags_of c a in
      let y = flags_of c b ++ g.more in
      let e : f ≡ x ++ y = g.is ∙ ap (λ k. k ++ g.more) (flags_split a) ∙ append_assoc x (flags_of c b) g.more in
      let n : length x ≡ m = flags_long c a ∙ sym h in
      let front : take m (x ++ y) ≡ x = ap (λ k. take k (x ++ y)) (sym n) ∙ take-append_seam x y in
      let behind : drop m (x ++ y) ≡ y = ap (λ k. drop k (x ++ y)) (sym n) ∙ drop-append_seam x y in
      (ap (λ k. all? set? (take m k)) e ∙ ap (all? set?) front ∙ flags_ones c a, record { more = g.more; is = ap (drop m) e ∙ behind }, omega (arith, ap length e, length-append x y))

pub noted : (ids : List Id) (l : List Id) (f₀ f t₀ t : List ℕ) → Fits (length l) f → 0 < length t₀ → FlagsAre (λ z. false) l f₀ → bits_in f ≡ mark_all_value (λ z. among? z ids) l f₀ 0 → t ≡ miss_all (λ z. among? z ids) l t₀ → Noted (λ z. among? z ids) l f t
noted ids l f₀ f t₀ t r n z e d = record {
  room = r;
  some = rw (d, miss_size (λ z. among? z ids) l t₀) n;
  are = later_flags (λ z. among? z ids) f₀ l (λ z. false) z e;
  new = λ y i h. rw d (miss_new (λ z. among? z ids) l t₀ n y i h);
}

pub flags_from : (own : List Id) (l : List Id) (flags : List ℕ) → FlagsAre (λ z. among? z own) l flags → FlagsFrom own l flags 0
flags_from own l flags g = record { up = omega arith; are = g }

module _ (own : List Id) (flags : List ℕ) (g : ℕ) (quick : Bool) {s : Bytes} {n at i left : ℕ} (x : Scan (form_c false rec_c) nothing_f s n at tt i left tt) (q : quick ≡ true → FlagsFrom own (wanted_of (list_at (form_c false rec_c) left s i)) flags g) (h : 0 < left) {m : ℕ} {y : Seen} (r : FoundRec false s i m y) where
  module _ {j : ℕ} (e : j ≡ after_in_value false s i m) (t : quick ≡ true) where
    its : Turn (form_c false rec_c) s left i j (SeenIn false s i m y)
    its = see false x h r e

    cut_here : (all? set? (take (y.facts.ins + y.facts.reads) (drop g flags)) ≡ all? (λ z. among? z own) (wanted its.item.body)) × FlagsAre (λ z. among? z own) (wanted_of (list_at (form_c false rec_c) (left - 1) s j)) (drop (y.facts.ins + y.facts.reads) (drop g flags)) × (y.facts.ins + y.facts.reads ≤ length (drop g flags))
    cut_here =
        let l = list_at (form_c false rec_c) (left - 1) s j in
        let f : wanted_of (list_at (form_c false rec_c) left s i) ≡ wanted its.item.body ++ wanted_of l = ap wanted_of its.list ∙ wanted_cut its.item l in
        flags_cut (λ z. among? z own) (wanted_of l) (wanted its.item.body) (drop g flags) (y.facts.ins + y.facts.reads) (wants_long its.is.0) (rw f at (q t).are)

    pub quick_next : FlagsFrom own (wanted_of (list_at (form_c false rec_c) (left - 1) s j)) flags (g + (y.facts.ins + y.facts.reads))
    quick_next = record { up = omega (arith, (q t).up, cut_here.2, length-drop g flags); are = rw (← (drop-drop (y.facts.ins + y.facts.reads) g flags)) cut_here.1 }

  pub quick_here : g + (y.facts.ins + y.facts.reads) < 9223372036854775808 → QuickFor quick own (wanted_at (view false s i) y) flags g (y.facts.ins + y.facts.reads)
  quick_here k = record {
    small = k;
    room = λ t. omega (arith, (q t).up, (cut_here refl t).2, length-drop g flags);
    says = λ t. (cut_here refl t).0 ∙ ap (all? (λ z. among? z own)) (sym (wanted_is (its refl t).is.0));
  }

pub owned_by : {quick : Bool} (own ins : List Id) {flags : List ℕ} {g c : ℕ} {r : Bool} → QuickFor quick own ins flags g c → quick ≡ true → r ≡ all? set? (take c (drop g flags)) → r ≡ all? (λ i. among? i own) ins
owned_by own ins q t e = e ∙ q.says t
