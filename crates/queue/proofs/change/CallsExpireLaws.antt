use Rattle.queue.specs.bytes.ViewAs.{view}
-- Expiry, exit by exit, and the ids of those finished. Assumes nothing.
use Rattle.std.specs.Prelude.{◌≡◌, refl, Bool, true, false, List, [], ◌∷◌, ◌++◌, ℕ, zero, suc, ◌+◌, ◌-◌, ◌*◌, ◌^◌, ◌≤◌, ◌<◌, ltb, eqb, length}
use Rattle.std.proofs.Common.{ap, sym, ◌∙◌, append-nil, arith, length-append, lt-ltb, le-ltb, eqb-true}
use Rattle.std.proofs.Math.Option.{none}
use Rattle.std.proofs.lemmas.Bool.{eqb-false}
use Rattle.queue.specs.Basics.{join_same}
use Rattle.queue.specs.Codec as codec
use Rattle.queue.specs.Codec.{cases, All, be_length}
use Rattle.queue.specs.Lists.{all_map, and_true}
use Rattle.queue.specs.bytes.PutAs.{Put, splice, be_last}
use Rattle.queue.specs.layout.FrameCodec.{rec_c}
use Rattle.queue.specs.bytes.ReaderAs.{whole, list_at, reads?}
use Rattle.queue.specs.bytes.ReaderLaws.{Turn, none_left}
use Rattle.queue.specs.layout.FormsCodec.{area_form, form_c, turn_in, ok_queue, ok_store, store_of, stands_in}
use Rattle.queue.specs.layout.RecordsAs.{RecordsIn}
use Rattle.queue.specs.Areas.{read_area}
use Rattle.queue.specs.theorems.Bound.{fits_need}
use Rattle.queue.specs.theorems.SoundParts.{Fit, Right, fit_sound, fit_ok}
use Rattle.queue.specs.theorems.CallsKeeps.{leaves_kept, pending_held, expire_leaves}
use Rattle.queue.specs.check.AreaAs.{records_of, AreaIn}
use Rattle.queue.specs.change.FinishAs.{picked, picked_s}
use Rattle.queue.specs.change.WriteAs.{ended, EndedFrom, EndedTo}
use Rattle.queue.specs.change.CallsAs.{id_if, picked_ids, ExpireTold}
use Rattle.queue.specs.paper.Records.{Bytes, Id, Rec}
use Rattle.queue.specs.paper.Lists.{one, any?, filter, map, concat, count}
use Rattle.queue.specs.paper.Sound.{need, holder?, pending?}
use Rattle.queue.specs.paper.Area.{over}
use Rattle.queue.specs.paper.Changing.{done, top, committed, due?, expire}
use Rattle.queue.specs.Checked.{Outcome, outcome, expire_of}
use Rattle.queue.specs.paper.Calls.{ids_bytes}
use Rattle.queue.specs.declared.Kind.TheVariants.{Nothing, Whole}
use Rattle.queue.specs.paper.Answer.{Refused, Done}
use Rattle.queue.specs.declared.layout.frame.Seen.{Seen}
use Rattle.queue.specs.declared.layout.frame.Time.{Time}
use Rattle.queue.specs.declared.layout.frame.Height.{Height}
use Rattle.queue.specs.declared.check.area.Area.{Area}
use Rattle.queue.specs.declared.change.finish.Change.{Change}
use Rattle.queue.specs.declared.change.finish.Change.TheVariants.{Due}
use Rattle.queue.proofs.check.AreaLaws.{recs_stand, fit}
use Rattle.queue.proofs.layout.TurnLaws.{SeenIn, FoundRec}
use Rattle.queue.proofs.bytes.PutLaws as puts
use Rattle.queue.proofs.bytes.PutLaws.{Left, begun, onward, kept, then, over_splice}
use Rattle.queue.proofs.bytes.PutByteLaws.{be_same}
use Rattle.queue.proofs.change.FinishLaws.{picked_is, raw_after, raw_within, id_32}
use Rattle.queue.proofs.change.WriteLaws.{one_queue}

-- ---- the ids of those picked
module _ (s : Bytes) (at n : ℕ) (c : Change) (id : Id) (to : ℕ) (d₀ : Bytes) where
  pub record Listing (dst : Bytes) (i left o : ℕ) : Type 0 where
    pub within : i ≤ length s
    pub all : whole (form_c false rec_c) left s i ≡ true
    pub long : length dst ≡ length d₀
    pub rest : Left d₀ to (concat (picked_ids c id (list_at (form_c false rec_c) n s at))) dst o (concat (picked_ids c id (list_at (form_c false rec_c) left s i)))

  pub listing : at ≤ length s → whole (form_c false rec_c) n s at ≡ true → Listing d₀ at n to
  listing h w = record { within = h; all = w; long = refl; rest = begun _ _ _ }

  module _ {dst : Bytes} {i left o : ℕ} (g : Listing dst i left o) where
    pub list_stands : 0 < left → reads? rec_c (view false s i) 0 ≡ true
    list_stands p = stands_in rec_c false s left g.within g.all p

    turn : {x : Seen} → 0 < left → FoundRec false s i x.size x → Turn (form_c false rec_c) s left i (i + x.size) (SeenIn false s i x.size x)
    turn {x} p r = rw (raw_after s i x.size) (turn_in false left g.within g.all p r)

    pub list_next : {x : Seen} → 0 < left → FoundRec false s i x.size x → i + x.size ≤ length s
    list_next p r = raw_within (turn p r).is

    module _ {hit : Bool} {x : Seen} (p : 0 < left) (r : FoundRec false s i x.size x) (e : hit ≡ picked_s c id x) where
      split : concat (picked_ids c id (list_at (form_c false rec_c) left s i)) ≡ id_if hit x.id ++ concat (picked_ids c id (list_at (form_c false rec_c) (left - 1) s (i + x.size)))
      unfolding picked_ids
      split =
          let t = turn p r in
          let k : hit ≡ picked c id t.item = e ∙ picked_is c id t.is.0 in
          let l = ap (λ y. concat (map (λ r. r.id) (filter (picked c id) y))) t.list in
          cases hit
          (λ h. l ∙ rw (← k, h) (ap (λ (y : Id). y ++ concat (map (λ r. r.id) (filter (picked c id) (list_at (form_c false rec_c) (left - 1) s (i + x.size))))) (sym t.is.0.id)))
          (λ h. l ∙ rw (← k, h))

      pub list_room : to + length (concat (picked_ids c id (list_at (form_c false rec_c) n s at))) ≤ length d₀ → o + length (id_if hit x.id) ≤ length dst
      list_room h = omega (arith, g.rest.pos, g.long, ap length split, length-append (id_if hit x.id) (concat (picked_ids c id (list_at (form_c false rec_c) (left - 1) s (i + x.size)))))

      pub list_go : {dst' : Bytes} {m q : ℕ} → Put dst o (id_if hit x.id) m q dst' → Listing dst' (i + x.size) (left - 1) q
      list_go w = let t = turn p r in record { within = t.within; all = t.rest; long = kept w ∙ g.long; rest = onward (rw split at g.rest) w }

    pub list_end : left ≡ 0 → Put d₀ to (concat (picked_ids c id (list_at (form_c false rec_c) n s at))) (length (concat (picked_ids c id (list_at (form_c false rec_c) n s at)))) o dst
    unfolding picked_ids
    list_end z = let l = none_left (form_c false rec_c) s left i z in puts.done (rw l.0 at g.rest)

-- ---- lists under a test
any_yes : (p : Rec → Bool) (l : List Rec) → 0 < count p l → any? p l ≡ true
any_yes p [] h = absurd (let y : ⊥ = omega arith in y)
any_yes p (r ∷ l) h = cases (p r)
    (λ t. rw t)
    (λ t. let z : one (p r) ≡ 0 = ap one t in rw t (any_yes p l (omega arith)))

none_picked : (p : Rec → Bool) (l : List Rec) → count p l ≡ 0 → (any? p l ≡ false) × (filter p l ≡ [])
none_picked p [] h = (refl, refl)
none_picked p (r ∷ l) h = cases (p r)
    (λ t. let z : one (p r) ≡ 1 = ap one t in absurd (let y : ⊥ = omega arith in y))
    (λ t. let i = none_picked p l (let z : one (p r) ≡ 0 = ap one t in omega arith) in rw (t, i.0, i.1) (refl, refl))

ids_long : (p : Rec → Bool) (l : List Rec) → All (λ r. length r.id ≡ 32) l → (length (map (λ r. r.id) (filter p l)) ≡ count p l) × (length (concat (map (λ r. r.id) (filter p l))) ≡ 32 * count p l)
ids_long p [] h = (refl, refl)
ids_long p (r ∷ l) h = let i = ids_long p l h.1 in cases (p r)
    (λ t. rw t (let a = i.0 in omega arith, let b = i.1 in let e = h.0 in rw length-append (omega arith)))
    (λ t. rw t (let a = i.0 in omega arith, let b = i.1 in omega arith))

pub some_due : (n : ℕ) → (n ≡ 0 → ⊥) → 0 < n
some_due zero h = absurd (h refl)
some_due (suc n) h = omega arith

-- ---- the call
pub expire_3 : (cur next out : Bytes) (time height : ℕ) → read_area cur ≡ none → outcome (Refused 3) next out ≡ expire_of cur next out time height
unfolding expire_of
expire_3 cur next out time height e = rw e

module _ (cur next out : Bytes) (time height : ℕ) {a : Area} (w : AreaIn cur a) where
  pub expire_2 : length next < a.need → outcome (Refused 2) next out ≡ expire_of cur next out time height
  unfolding expire_of
  expire_2 h = rw (w.is, lt-ltb (length next) (need w.q.limits) (omega (arith, w.read.need)))

  pub expire_rest : a.need ≤ length next → {o : Outcome} → ExpireTold cur time height o next out → o ≡ expire_of cur next out time height
  unfolding expire_of
  expire_rest h c = rw (w.is, le-ltb (length next) (need w.q.limits) (omega (arith, w.read.need))) (c w.q w.is)

module _ {s : Bytes} {a : Area} (w : AreaIn s a) where
  pub hits_asks : RecordsIn (form_c false rec_c) s (records_of a.open)
  hits_asks = recs_stand w.read.store

  ids_32 : All (λ r. length r.id ≡ 32) w.q.recs
  ids_32 = all_map w.q.recs id_32 (ok_store area_form (store_of w.q) (ok_queue w.q w.read.range).1).1

  due_held : (K n : ℕ) (l : List Rec) (time height : ℕ) → All (Right K n) l → All (λ r. due? time height r ≡ true → holder? r ≡ true) l
  unfolding due?
  due_held K n [] time height h = tt
  due_held K n (r ∷ l) time height h = (λ e. pending_held r.state (holder? r) (and_true (pending? r.state) _ e).0 h.0.held, due_held K n l time height h.1)

  module _ (time : Time) (height : Height) (id : Id) {m : ℕ} (c : m ≡ count (picked (Due time height) id) (list_at (form_c false rec_c) a.open.head.count s a.open.start)) (f : m ≤ a.open.head.count) where
    hits_is : m ≡ count (due? time.0 height.0) w.q.recs
    unfolding picked
    hits_is = c ∙ ap (count (due? time.0 height.0)) w.read.store.list

    pub due_15 : (next out : Bytes) → 18446744073709551615 - a.open.head.counter.0 < m → ExpireTold s time.0 height.0 (outcome (Refused 15) next out) next out
    unfolding expire
    due_15 next out h q e =
        let k = w.read.store.head.counter in let g = hits_is in
        rw (← (one_queue s w.is e), any_yes (due? time.0 height.0) w.q.recs (omega arith), lt-ltb top (w.q.counter + count (due? time.0 height.0) w.q.recs) (omega (arith, w.read.store.head.counter_small)))

    module _ (h : m ≤ 18446744073709551615 - a.open.head.counter.0) where
      pub due_room : ltb top (w.q.counter + count (due? time.0 height.0) w.q.recs) ≡ false
      due_room = let k = w.read.store.head.counter in let g = hits_is in le-ltb top (w.q.counter + count (due? time.0 height.0) w.q.recs) (omega (arith, w.read.store.head.counter_small))

      abbrev ids : List Id
      ids = map (λ r. r.id) (filter (due? time.0 height.0) w.q.recs)

      ids_size : length (ids_bytes ids) ≡ 4 + 32 * m
      unfolding ids_bytes
      ids_size = let l = (ids_long (due? time.0 height.0) w.q.recs ids_32).1 in let b = be_length 4 (length ids) in let g = hits_is in length-append (codec.be 4 (length ids)) (concat ids) ∙ omega arith

      expires : 0 < m → expire time.0 height.0 w.q ≡ done Whole (ended (due? time.0 height.0) 5 2 w.q) ids
      unfolding expire ended
      expires p = let g = hits_is in rw (any_yes (due? time.0 height.0) w.q.recs (omega arith), due_room)

      nothing_due : m ≡ 0 → expire time.0 height.0 w.q ≡ done Nothing w.q ids
      unfolding expire
      nothing_due z = let n = none_picked (due? time.0 height.0) w.q.recs (sym hits_is ∙ z) in rw (n.0, n.1)

      pub due_4 : (next out : Bytes) → length out < 4 + 32 * m → ExpireTold s time.0 height.0 (outcome (Refused 4) next out) next out
      due_4 next out k q e = rw (← (one_queue s w.is e)) (cases (eqb m 0)
          (λ t. rw (nothing_due (eqb-true m 0 t), lt-ltb (length out) (length (ids_bytes ids)) (omega (arith, ids_size))))
          (λ t. let z = eqb-false m 0 t in rw (expires (some_due m z), lt-ltb (length out) (length (ids_bytes ids)) (omega (arith, ids_size)))))

      pub due_none : (next out : Bytes) {out' : Bytes} {r : ℕ} → m ≡ 0 → 4 ≤ length out → Put out 0 (be_last 4 0) 4 r out' → ExpireTold s time.0 height.0 (outcome (Done Nothing) next out') next out
      unfolding ids_bytes
      due_none next out {out'} z k p q e =
          let n = none_picked (due? time.0 height.0) w.q.recs (sym hits_is ∙ z) in
          let i : ids ≡ [] = ap (map (λ r. r.id)) n.1 in
          let b : be_last 4 0 ≡ ids_bytes ids = be_same 4 0 (omega arith) ∙ sym (append-nil (codec.be 4 0)) ∙ ap ids_bytes (sym i) in
          let o : out' ≡ over (ids_bytes ids) out = p.is ∙ ap (splice out 0) b ∙ sym (over_splice out (ids_bytes ids) (omega (arith, ids_size))) in
          rw (← (one_queue s w.is e), nothing_due z, le-ltb (length out) (length (ids_bytes ids)) (omega (arith, ids_size)), o)

      done_fit : 0 < m → Fit (ended (due? time.0 height.0) 5 2 w.q)
      done_fit p = (leaves_kept w.q (ended (due? time.0 height.0) 5 2 w.q) (expire time.0 height.0 w.q) Whole ids (expire_leaves time.0 height.0 w.q (fit w.read)) (expires p)).fit

      pub due_from : 0 < m → EndedFrom s a (Due time height) id m
      unfolding picked ended committed
      due_from p = record {
        q = w.q;
        is = w.is;
        read = w.read;
        hits = c;
        picks = due_held _ _ w.q.recs time.0 height.0 (fit w.read).sound.right;
        few = f;
        room = omega (arith, w.read.store.head.counter_small);
        fits = fits_need (ended (due? time.0 height.0) 5 2 w.q) (fit_sound _ (done_fit p)) (fit_ok _ (done_fit p));
      }

      listed : concat (picked_ids (Due time height) id (list_at (form_c false rec_c) a.open.head.count s a.open.start)) ≡ concat ids
      unfolding picked_ids picked
      listed = ap (λ y. concat (map (λ r. r.id) (filter (due? time.0 height.0) y))) w.read.store.list

      listed_long : length (concat (picked_ids (Due time height) id (list_at (form_c false rec_c) a.open.head.count s a.open.start))) ≡ 32 * m
      listed_long = ap length listed ∙ (ids_long (due? time.0 height.0) w.q.recs ids_32).1 ∙ ap (λ k. 32 * k) (sym hits_is)

      pub due_ids : (out : Bytes) {out' : Bytes} {r : ℕ} → 4 + 32 * m ≤ length out → Put out 0 (be_last 4 m) 4 r out' → r + length (concat (picked_ids (Due time height) id (list_at (form_c false rec_c) a.open.head.count s a.open.start))) ≤ length out'
      due_ids out k p = omega (arith, p.next, kept p, listed_long)

      pub due_102 : (next out : Bytes) {next' out' out'' : Bytes} {r r' : ℕ} → (m ≡ 0 → ⊥) → 0 < m → 4 + 32 * m ≤ length out → EndedTo s a (Due time height) id next next' → Put out 0 (be_last 4 m) 4 r out'
          → Put out' r (concat (picked_ids (Due time height) id (list_at (form_c false rec_c) a.open.head.count s a.open.start))) (length (concat (picked_ids (Due time height) id (list_at (form_c false rec_c) a.open.head.count s a.open.start)))) r' out''
          → ExpireTold s time.0 height.0 (outcome (Done Whole) next' out'') next out
      unfolding ids_bytes picked
      due_102 next out {next'} {out'} {out''} z pos k t p1 p2 q e =
          let u = then p1 p2 in
          let l = (ids_long (due? time.0 height.0) w.q.recs ids_32).0 in
          let small : m < 256 ^ 4 = omega (arith, w.read.store.head.count_small) in
          let b : be_last 4 m ++ concat (picked_ids (Due time height) id (list_at (form_c false rec_c) a.open.head.count s a.open.start)) ≡ ids_bytes ids = join_same (be_same 4 m small ∙ ap (codec.be 4) (hits_is ∙ sym l)) listed in
          let o : out'' ≡ over (ids_bytes ids) out = u.is ∙ ap (splice out 0) b ∙ sym (over_splice out (ids_bytes ids) (omega (arith, ids_size))) in
          rw (← (one_queue s w.is e), expires pos, le-ltb (length out) (length (ids_bytes ids)) (omega (arith, ids_size)), o, t w.q w.is)
