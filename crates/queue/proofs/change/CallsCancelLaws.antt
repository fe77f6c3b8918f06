use Rattle.queue.proofs.change.WriteNextLaws.{caller_byte}
-- Cancellation, exit by exit. Assumes nothing.
use Rattle.std.specs.Prelude.{◌≡◌, refl, Bool, true, false, List, [], ◌∷◌, ◌++◌, ℕ, ◌+◌, ◌-◌, ◌≤◌, ◌<◌, ltb, length, drop, take}
use Rattle.std.proofs.Common.{ap, sym, ◌∙◌, append_assoc, append-nil, arith, length-append, length-drop, drop-drop, lt-ltb, le-ltb, eq-eqb, ne_eqb}
use Rattle.std.proofs.Math.Option.{none}
use Rattle.queue.specs.Codec as codec
use Rattle.queue.specs.Codec.{cases, All}
use Rattle.queue.specs.Lists.{Pairwise, all_map}
use Rattle.queue.specs.bytes.ListLaws.{find_only, find_count}
use Rattle.queue.specs.bytes.PutAs.{Put, splice}
use Rattle.queue.specs.layout.FrameCodec.{terms_c, place_c, rec_c}
use Rattle.queue.specs.bytes.Parts.{part}
use Rattle.queue.specs.bytes.ViewAs.{view}
use Rattle.queue.specs.bytes.ReaderAs.{list_at}
use Rattle.queue.specs.layout.FormsCodec.{form_c}
use Rattle.queue.specs.Areas.{read_area}
use Rattle.queue.specs.theorems.Bound.{fits_need}
use Rattle.queue.specs.theorems.SoundParts.{Fit, fit_sound, fit_ok}
use Rattle.queue.specs.theorems.CallsKeeps.{leaves_kept, named_once, cancel_leaves}
use Rattle.queue.specs.theorems.Plain.{terms_plain, place_plain}
use Rattle.queue.specs.layout.FrameAs.{terms_at, facts_of}
use Rattle.queue.specs.check.AreaAs.{AreaIn}
use Rattle.queue.specs.change.FinishAs.{picked}
use Rattle.queue.specs.read.ReadingAs.{StandsAt, EntryIn, entry_at, entry_len_value}
use Rattle.queue.specs.change.WriteAs.{ended, EndedFrom, EndedTo}
use Rattle.queue.specs.change.CallsAs.{end_bytes, FoundIn, HeldIn, CancelTold}
use Rattle.queue.specs.paper.Records.{Bytes, Id, Rec}
use Rattle.queue.specs.paper.Lists.{find, count}
use Rattle.queue.specs.paper.Sound.{need, holder?, mined?}
use Rattle.queue.specs.paper.Area.{terms_bytes, place_bytes, over}
use Rattle.queue.specs.paper.Changing.{refused, done, top, named?, committed, finished, cancel}
use Rattle.queue.specs.Checked.{Outcome, outcome, told, cancel_of}
use Rattle.queue.specs.paper.Calls.{entry_bytes}
use Rattle.queue.specs.declared.Kind.TheVariants.{Nothing, Whole}
use Rattle.queue.specs.paper.Answer.{Refused, Done}
use Rattle.queue.specs.declared.layout.frame.Seen.{Seen}
use Rattle.queue.specs.declared.check.area.Area.{Area}
use Rattle.queue.specs.declared.change.finish.Change.TheVariants.{Named}
use Rattle.queue.proofs.check.AreaLaws.{fit}
use Rattle.queue.proofs.layout.TurnLaws.{SeenIn, FoundRec}
use Rattle.queue.proofs.bytes.PutLaws.{over_splice}
use Rattle.queue.proofs.bytes.PutByteLaws.{be_same, between}
use Rattle.queue.proofs.change.FinishLaws.{id_32}
use Rattle.queue.proofs.change.WriteLaws.{one_queue}
use Rattle.queue.proofs.read.ReadingLaws.{key, met, entry_in_law, entry_is, entry_size}

pub cancel_3 : (cur next out id : Bytes) → read_area cur ≡ none → outcome (Refused 3) next out ≡ cancel_of cur next out id
unfolding cancel_of
cancel_3 cur next out id e = rw e

module _ (cur next out id : Bytes) {a : Area} (w : AreaIn cur a) where
  pub cancel_2 : length next < a.need → outcome (Refused 2) next out ≡ cancel_of cur next out id
  unfolding cancel_of
  cancel_2 h = rw (w.is, lt-ltb (length next) (need w.q.limits) (omega (arith, w.read.need)))

  module _ (h : a.need ≤ length next) where
    enough : ltb (length next) (need w.q.limits) ≡ false
    enough = le-ltb (length next) (need w.q.limits) (omega (arith, w.read.need))

    pub cancel_5 : (length id ≡ 32 → ⊥) → outcome (Refused 5) next out ≡ cancel_of cur next out id
    unfolding cancel_of
    cancel_5 n = rw (w.is, enough, ne_eqb (length id) 32 n)

    module _ (l : length id ≡ 32) {k : Id} (e : k ≡ part 32 (view false id 0) 0) where
      pub cancel_13 : find (named? k) (list_at (form_c false rec_c) a.open.head.count cur a.open.start) ≡ none → outcome (Refused 13) next out ≡ cancel_of cur next out id
      unfolding cancel_of cancel
      cancel_13 n =
          let z : find (named? id) w.q.recs ≡ none = ap (λ y. find (named? y) w.q.recs) (sym (key l e)) ∙ ap (find (named? k)) (sym w.read.store.list) ∙ n in
          rw (w.is, enough, eq-eqb (length id) 32 l, z)

      pub cancel_rest : {o : Outcome} → CancelTold cur k o next out → o ≡ cancel_of cur next out id
      unfolding cancel_of
      cancel_rest {o} c = let z = c w.q w.is ∙ ap (λ y. told entry_bytes next out (cancel y w.q)) (key l e) in
          rw (w.is, enough, eq-eqb (length id) 32 l) z

pub found_in : {s : Bytes} {a : Area} (w : AreaIn s a) {k : Id} {at : ℕ} → StandsAt s k a.open.start (list_at (form_c false rec_c) a.open.head.count s a.open.start) at → FoundIn s a k at
found_in w {k} f = record { q = w.q; is = w.is; read = w.read; r = f.r; found = ap (find (named? k)) (sym w.read.store.list) ∙ f.found; here = f.here }

-- ---- one record of an id
none_count : (p : Rec → Bool) (l : List Rec) → All (λ b. p b ≡ true → ⊥) l → count p l ≡ 0
none_count p [] h = refl
none_count p (b ∷ l) h = let i = none_count p l h.1 in cases (p b) (λ t. absurd (h.0 t)) (λ t. rw t (omega arith))

once_count : (p : Rec → Bool) (l : List Rec) → Pairwise (λ a b. p a ≡ true → p b ≡ true → ⊥) l → count p l ≤ 1
once_count p [] h = omega arith
once_count p (a ∷ l) h = cases (p a)
    (λ t. let i = none_count p l (all_map l (λ b k. k t) h.0) in rw t (omega arith))
    (λ t. let i = once_count p l h.1 in rw t (omega arith))

count_long : (p : Rec → Bool) (l : List Rec) → count p l ≤ length l
count_long p [] = omega arith
count_long p (a ∷ l) = let i = count_long p l in cases (p a) (λ t. rw t (omega arith)) (λ t. rw t (omega arith))

-- ---- from the record found on
module _ {s : Bytes} {a : Area} {id : Id} {at : ℕ} (w : FoundIn s a id at) {y : Seen} (x : FoundRec false s at y.size y) where
  pub it : SeenIn false s at y.size y w.r
  it = met w.here x

  state_is : y.facts.state ≡ w.r.state
  unfolding facts_of
  state_is = ap (λ v. v.state) it.0.facts

  holds_is : y.facts.holder ≡ holder? w.r
  unfolding facts_of
  holds_is = ap (λ v. v.holder) it.0.facts

  pub found_14 : (next out : Bytes) → y.facts.state ≡ 2 → CancelTold s id (outcome (Refused 14) next out) next out
  unfolding cancel
  found_14 next out h q e = rw (← (one_queue s w.is e), w.found, eq-eqb w.r.state 2 (sym state_is ∙ h))

  module _ (next out : Bytes) (m : y.facts.state ≡ 2 → ⊥) where
    unmined : mined? w.r ≡ false
    unmined = ne_eqb w.r.state 2 (λ e. m (state_is ∙ e))

    pub found_4 : {n : ℕ} → y.facts.holder ≡ false → n ≡ entry_len_value y → length out < n → CancelTold s id (outcome (Refused 4) next out) next out
    unfolding cancel
    found_4 {n} h l k q e = rw (← (one_queue s w.is e), w.found, unmined, sym holds_is ∙ h, lt-ltb (length out) (length (entry_bytes w.r)) (omega (arith, entry_size w.here.0 it)))

    pub found_100 : {out' : Bytes} {r n : ℕ} → y.facts.holder ≡ false → n ≡ entry_len_value y → n ≤ length out → Put out 0 (entry_at s at y) (entry_len_value y) r out' → CancelTold s id (outcome (Done Nothing) next out') next out
    unfolding cancel
    found_100 {out'} h l k p q e =
        let z : out' ≡ over (entry_bytes w.r) out = p.is ∙ ap (splice out 0) (entry_is w.here.0 it) ∙ sym (over_splice out (entry_bytes w.r) (omega (arith, entry_size w.here.0 it))) in
        rw (← (one_queue s w.is e), w.found, unmined, sym holds_is ∙ h, le-ltb (length out) (length (entry_bytes w.r)) (omega (arith, entry_size w.here.0 it)), z)

    pub held_in : y.facts.holder ≡ true → HeldIn s a id at y
    held_in h = record { q = w.q; is = w.is; read = w.read; r = w.r; found = w.found; seen = it; held = sym holds_is ∙ h; unmined = unmined }

  pub entry_asks : (1 ≤ y.mark) × (y.mark ≤ 400) × (y.facts.ins < 65536) × (y.facts.reads < 65536)
  entry_asks = let e = entry_in_law w.here.0 it in (omega (arith, e.up), e.most, e.few, e.few_reads)

  pub put_asks : EntryIn s at y
  put_asks = entry_in_law w.here.0 it

-- ---- finishing it
join2 : (v a b w y : Bytes) → drop terms_at v ≡ a ++ w → w ≡ b ++ y → drop terms_at v ≡ (a ++ b) ++ y
join2 v a b w y e f = e ∙ rw f (sym (append_assoc a b y))

module _ {s : Bytes} {a : Area} {id : Id} {at : ℕ} {x : Seen} (w : HeldIn s a id at x) where
  middle : (take (x.mark - terms_at) (drop (at + terms_at) s) ≡ terms_c.enc w.r.terms ++ place_c.enc w.r.place) × (length (terms_c.enc w.r.terms ++ place_c.enc w.r.place) ≡ x.mark - terms_at)
  unfolding view
  middle =
      let u = w.seen.0 in
      let e = join2 (drop at s) (terms_c.enc w.r.terms) (place_c.enc w.r.place) (drop x.after (drop at s)) (drop x.mark (drop at s)) u.terms u.place in
      let b = between (drop at s) (terms_c.enc w.r.terms ++ place_c.enc w.r.place) terms_at x.mark e (omega (arith, u.up, u.up_place)) (omega (arith, u.up_body, u.end)) in
      (ap (take (x.mark - terms_at)) (sym (drop-drop terms_at at s)) ∙ b.0, b.1)

  pub held_asks : (terms_at ≤ x.mark) × (at + x.mark ≤ length s)
  unfolding view
  held_asks = let u = w.seen.0 in (omega (arith, u.up, u.up_place), omega (arith, u.up_body, u.end, length-drop at s, u.up, u.up_place))

  end_shape : (n : ℕ) → ((((w.r.id ++ codec.be 1 w.r.caller) ++ (4 ∷ [])) ++ (1 ∷ [])) ++ (terms_c.enc w.r.terms ++ place_c.enc w.r.place)) ++ codec.be 4 0 ≡ entry_bytes (finished 4 1 n w.r)
  unfolding entry_bytes finished
  end_shape n = rw (terms_plain w.r.terms, place_plain w.r.place) (rejoin w.r.id (codec.be 1 w.r.caller) (4 ∷ []) (1 ∷ []) (terms_bytes w.r.terms) (place_bytes w.r.place) (codec.be 2 0) (codec.be 2 0))
    where
      rejoin : (i c a b t p n m : Bytes) → ((((i ++ c) ++ a) ++ b) ++ (t ++ p)) ++ (n ++ m) ≡ i ++ (c ++ (a ++ (b ++ (t ++ (p ++ ((n ++ []) ++ (m ++ [])))))))
      rejoin i c a b t p n m = simp (append_assoc, append-nil)

  end_is : (n : ℕ) → end_bytes s at x ≡ entry_bytes (finished 4 1 n w.r)
  unfolding end_bytes
  end_is n = rw (w.seen.0.id, caller_byte w.seen.0, middle.0, be_same 4 0 (omega arith)) (end_shape n)

  end_long : (n : ℕ) → length (entry_bytes (finished 4 1 n w.r)) ≡ x.mark + 3
  unfolding end_bytes
  end_long n =
      let i = ap length w.seen.0.id ∙ id_32 w.r w.seen.1.fine in
      let h = held_asks in
      let m = ap length middle.0 ∙ middle.1 in
      let e = Rattle.queue.proofs.bytes.PutLaws.length_be 4 0 in
      let c = Rattle.queue.proofs.bytes.PutLaws.length_be 1 x.facts.caller in
      sym (ap length (end_is n)) ∙ simp length-append (omega arith)

  picks_one : All (λ r. named? id r ≡ true → holder? r ≡ true) w.q.recs
  picks_one = all_map w.q.recs (λ y z n. ap holder? (z n) ∙ w.held) (find_only (named? id) w.q.recs (named_once id w.q.recs (fit w.read).sound.rising) w.r w.found)

  cancels : ltb top (w.q.counter + count (named? id) w.q.recs) ≡ false → cancel id w.q ≡ done Whole (ended (named? id) 4 1 w.q) (finished 4 1 (w.q.counter + 1) w.r)
  unfolding cancel ended
  cancels h = rw (w.found, w.unmined, w.held, h)

  refuses : ltb top (w.q.counter + count (named? id) w.q.recs) ≡ true → cancel id w.q ≡ refused 15
  unfolding cancel
  refuses h = rw (w.found, w.unmined, w.held, h)

  -- no other record has the id
  pub one_hit : (1 ≡ count (picked Named id) (list_at (form_c false rec_c) a.open.head.count s a.open.start)) × (1 ≤ a.open.head.count)
  unfolding picked
  one_hit =
      let k = find_count (named? id) w.q.recs w.r w.found in
      let u = once_count (named? id) w.q.recs (named_once id w.q.recs (fit w.read).sound.rising) in
      let v = count_long (named? id) w.q.recs in
      let n = w.read.store.count in
      (rw w.read.store.list (omega arith), omega arith)

  module _ {m : ℕ} (c : m ≡ count (picked Named id) (list_at (form_c false rec_c) a.open.head.count s a.open.start)) (f : m ≤ a.open.head.count) where
    hits_is : m ≡ count (named? id) w.q.recs
    unfolding picked
    hits_is = c ∙ ap (count (named? id)) w.read.store.list

    pub held_15 : (next out : Bytes) → 18446744073709551615 - a.open.head.counter.0 < m → CancelTold s id (outcome (Refused 15) next out) next out
    held_15 next out h q e =
        let k = w.read.store.head.counter in let g = hits_is in
        let z = refuses (lt-ltb top (w.q.counter + count (named? id) w.q.recs) (omega (arith, w.read.store.head.counter_small))) in
        rw (← (one_queue s w.is e), z)

    module _ (h : m ≤ 18446744073709551615 - a.open.head.counter.0) where
      room : ltb top (w.q.counter + count (named? id) w.q.recs) ≡ false
      room = let k = w.read.store.head.counter in let g = hits_is in le-ltb top (w.q.counter + count (named? id) w.q.recs) (omega (arith, w.read.store.head.counter_small))

      done_fit : Fit (ended (named? id) 4 1 w.q)
      done_fit = (leaves_kept w.q (ended (named? id) 4 1 w.q) (cancel id w.q) Whole (finished 4 1 (w.q.counter + 1) w.r) (cancel_leaves id w.q (fit w.read)) (cancels room)).fit

      pub held_from : EndedFrom s a Named id m
      unfolding picked ended committed
      held_from = record {
        q = w.q;
        is = w.is;
        read = w.read;
        hits = c;
        picks = picks_one;
        few = f;
        room = omega (arith, w.read.store.head.counter_small);
        fits = fits_need (ended (named? id) 4 1 w.q) (fit_sound _ done_fit) (fit_ok _ done_fit);
      }

      pub held_4 : (next out : Bytes) → length out < x.mark + 3 → CancelTold s id (outcome (Refused 4) next out) next out
      held_4 next out k q e =
          rw (← (one_queue s w.is e), cancels room, lt-ltb (length out) (length (entry_bytes (finished 4 1 (w.q.counter + 1) w.r))) (omega (arith, end_long (w.q.counter + 1))))

      pub held_102 : (next out : Bytes) {next' out' : Bytes} {r : ℕ} → x.mark + 3 ≤ length out → EndedTo s a Named id next next' → Put out 0 (end_bytes s at x) (x.mark + 3) r out' → CancelTold s id (outcome (Done Whole) next' out') next out
      unfolding picked
      held_102 next out {next'} {out'} k t p q e =
          let n = w.q.counter + 1 in
          let z : out' ≡ over (entry_bytes (finished 4 1 (w.q.counter + 1) w.r)) out = p.is ∙ ap (splice out 0) (end_is (w.q.counter + 1)) ∙ sym (over_splice out (entry_bytes (finished 4 1 (w.q.counter + 1) w.r)) (omega (arith, end_long (w.q.counter + 1)))) in
          rw (← (one_queue s w.is e), cancels room, le-ltb (length out) (length (entry_bytes (finished 4 1 (w.q.counter + 1) w.r))) (omega (arith, end_long (w.q.counter + 1))), z, t w.q w.is)

-- the counter is at its end, or there is room for one more
pub full : {s : Bytes} {a : Area} {id : Id} {at : ℕ} {x : Seen} → HeldIn s a id at x → a.open.head.counter.0 ≡ 18446744073709551615 → 18446744073709551615 - a.open.head.counter.0 < 1
full w h = omega (arith, h)

pub not_full : {s : Bytes} {a : Area} {id : Id} {at : ℕ} {x : Seen} → HeldIn s a id at x → (a.open.head.counter.0 ≡ 18446744073709551615 → ⊥) → 1 ≤ 18446744073709551615 - a.open.head.counter.0
not_full w h = omega (arith, h, w.read.store.head.counter_small)
