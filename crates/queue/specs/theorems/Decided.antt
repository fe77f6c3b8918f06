-- Request P5: its promises hold, of every sound queue and every reconciliation.
use Rattle.std.specs.Prelude.{◌≡◌, refl, Bool, true, false, cond, not, ◌&&◌, ◌||◌, ◌⊎◌, List, [], ◌∷◌, ℕ, ◌+◌, ◌-◌, ◌≤◌, min, ltb, leb, eqb, length}
use Rattle.std.proofs.Common.{sym, ap, ◌∙◌, inl, inr, ⊎_elim, arith}
use Rattle.std.proofs.Math.Option.{Option, none, some}
use Rattle.queue.specs.Codec.{cases}
use Rattle.queue.specs.Lists.{and_true, Pairwise}
use Rattle.queue.specs.bytes.ListLaws.{all_every, filter_total, total_eq, map_total_le, count_one, pairwise_with, sort_total, sort_length, filter_length, map_length}
use Rattle.queue.specs.bytes.ReaderLaws.{false_true}
use Rattle.queue.specs.bytes.OrderLaws.{same_is}
use Rattle.queue.specs.theorems.SoundParts.{sound_of_law}
use Rattle.queue.specs.theorems.CallsKeeps.{pending_mined}
use Rattle.queue.specs.theorems.ReconcileKeeps.{Diff, rising_diff}
use Rattle.queue.specs.paper.Records.{Id, Limits, Rec, Queue, queued, conflicted}
use Rattle.queue.specs.paper.Lists.{maybe, is_some, is_empty?, one, all?, any?, count, filter, find, sort, map}
use Rattle.queue.specs.paper.Ids.{same?}
use Rattle.queue.specs.paper.Sound.{pending?, mined?, wanted, content, among?, sound?}
use Rattle.queue.specs.paper.Changing.{Applied, Reconciling, confirmed?, confirm, judge, touch_found, touch, own_of, touched_recs, mined_height, newer?, releases, to_release, reconcile, top, top_height}
use Rattle.queue.specs.paper.Decisions.{Decision, entered, mined_holder?, decide, decisions, refusal, OnePass}

-- ---- the records after `applied` was entered, and after all verdicts: the Mined holders are the same

-- two records that are one, or neither is a Mined holder
abbrev Alike : Rec → Rec → Type 0
Alike x y = (x ≡ y) ⊎ ((mined_holder? x ≡ false) × (mined_holder? y ≡ false))

module _ (caught : Bool) (own : List Id) (r : Rec) where
  judge_alike : (fine : Bool) → mined_holder? r ≡ false → Alike r (maybe r (λ x. x) (cond fine (judge queued 0 r) (judge conflicted 5 r)))
  judge_alike true h = cases (eqb r.state queued && eqb r.reason 0) (λ t. rw t (inl refl)) (λ t. rw t (inr (h, refl)))
  judge_alike false h = cases (eqb r.state conflicted && eqb r.reason 5) (λ t. rw t (inl refl)) (λ t. rw t (inr (h, refl)))

  enter_alike : (o : Option Applied) → Alike (maybe r (λ a. cond (mined? r && confirmed? a r.place) r (confirm a r)) o) (maybe r (λ x. x) (touch_found caught own r o))
  enter_alike (some a) = cases (mined? r && confirmed? a r.place) (λ t. rw t (inl refl)) (λ t. rw t (inl refl))
  enter_alike none = cases (caught && pending? r.state)
      (λ t. let p = pending_mined r.state (and_true caught (pending? r.state) t).1 in rw t (judge_alike (all? (λ i. among? i own) (wanted r.body)) (rw p refl)))
      (λ t. rw t (inl refl))

filter_alike : (f g : Rec → Rec) → ((r : Rec) → Alike (f r) (g r)) → (l : List Rec) → filter mined_holder? (map f l) ≡ filter mined_holder? (map g l)
filter_alike f g k [] = refl
filter_alike f g k (r ∷ l) =
    let i = filter_alike f g k l in
    ⊎_elim (λ e. step e i) (λ h. rw (h.0, h.1) i) (k r)
  where
    step : {x y : Rec} {a b : List Rec} → x ≡ y → a ≡ b → cond (mined_holder? x) (x ∷ a) a ≡ cond (mined_holder? y) (y ∷ b) b
    step e f = cc

pub entered_mined : (c : Reconciling) (q : Queue) → filter mined_holder? (entered c q) ≡ filter mined_holder? (touched_recs c q)
unfolding entered touched_recs touch
entered_mined c q = filter_alike _ _ (λ r. enter_alike c.caught_up (own_of c q) r (find (λ a. same? r.id a.id) c.applied)) q.recs

-- ---- the walk

module _ (m : Limits) (height window : ℕ) where
  decide_ids : (n b : ℕ) (l : List Rec) → map (λ d. d.id) (decide m height window n b l) ≡ map (λ r. r.id) l
  unfolding decide
  decide_ids n b [] = refl
  decide_ids n b (r ∷ l) = let i = decide_ids (n + 1) (b + length (content r.body)) l in ap (λ x. r.id ∷ x) i

  decide_length : (n b : ℕ) (l : List Rec) → length (decide m height window n b l) ≡ length l
  unfolding decide
  decide_length n b [] = refl
  decide_length n b (r ∷ l) = let i = decide_length (n + 1) (b + length (content r.body)) l in omega arith

  decide_count : (i : Id) (n b : ℕ) (l : List Rec) → count (λ d. same? i d.id) (decide m height window n b l) ≡ count (λ r. same? i r.id) l
  unfolding decide
  decide_count i n b [] = refl
  decide_count i n b (r ∷ l) = let e = decide_count i (n + 1) (b + length (content r.body)) l in omega arith

  decide_gone : (n b : ℕ) (l : List Rec) → map (λ d. d.id) (filter (λ d. d.released) (decide m height window n b l)) ≡ releases m height window n b l
  unfolding decide releases
  decide_gone n b [] = refl
  decide_gone n b (r ∷ l) =
      let i = decide_gone (n + 1) (b + length (content r.body)) l in
      cases (leb window (height - mined_height r) || (leb m.P n || ltb m.B (b + length (content r.body))))
      (λ t. rw (t, i) refl)
      (λ t. rw t i)

-- ---- counts

one_and : (a b : Bool) → cond a (one b) 0 ≡ one (a && b)
one_and true b = refl
one_and false b = refl

filter_count : (p k : Rec → Bool) (l : List Rec) → count k (filter p l) ≡ count (λ r. p r && k r) l
filter_count p k l = filter_total p (λ r. one (k r)) l ∙ total_eq _ _ (λ r. one_and (p r) (k r)) l

-- an id is that of one record at most, and `applied` changes no id
one_named : (i : Id) (l : List Rec) → Pairwise Diff l → count (λ r. same? i r.id) l ≤ 1
one_named i l h = count_one (λ r. same? i r.id) l (pairwise_with (λ r. Unit {0}) Diff _ (λ a b _ _ d s t. false_true (sym d ∙ rw (← same_is i a.id s) t)) l (all_every _ (λ r. tt) l) h)

at_most_law : (a b : Bool) → one (a && b) ≤ one b
at_most_law true b = omega arith
at_most_law false true = omega arith
at_most_law false false = omega arith

id_entered : (r : Rec) (o : Option Applied) → (maybe r (λ a. cond (mined? r && confirmed? a r.place) r (confirm a r)) o).id ≡ r.id
unfolding confirm
id_entered r none = refl
id_entered r (some a) = cases (mined? r && confirmed? a r.place) (λ t. rw t refl) (λ t. rw t refl)

abbrev enter : Reconciling → Rec → Rec
enter c r = maybe r (λ a. cond (mined? r && confirmed? a r.place) r (confirm a r)) (find (λ a. same? r.id a.id) c.applied)

one_entered : (c : Reconciling) (q : Queue) (i : Id) → Pairwise Diff q.recs → count (λ r. mined_holder? r && same? i r.id) (entered c q) ≤ 1
unfolding entered
one_entered c q i h =
    let a = map_total_le (λ r. Unit {0}) (λ r. one (mined_holder? r && same? i r.id)) (λ r. one (same? i r.id)) (enter c) (λ r _. named r) q.recs (all_every _ (λ r. tt) q.recs) in
    let b = one_named i q.recs h in
    omega (arith, a, b)
  where
    named : (r : Rec) → one (mined_holder? (enter c r) && same? i (enter c r).id) ≤ one (same? i r.id)
    named r = rw (id_entered r (find (λ a. same? r.id a.id) c.applied)) (at_most_law (mined_holder? (enter c r)) (same? i r.id))

-- ---- the promises

module _ (c : Reconciling) (q : Queue) where
  decided_gone : map (λ d. d.id) (filter (λ d. d.released) (decisions c q)) ≡ to_release c q
  unfolding decisions to_release
  decided_gone = decide_gone q.limits c.height c.window 0 0 (sort newer? (filter mined_holder? (entered c q))) ∙ ap (λ l. releases q.limits c.height c.window 0 0 (sort newer? l)) (entered_mined c q)

  decided_many : count (λ d. d.released) (decisions c q) ≡ length (to_release c q)
  decided_many = sym (filter_length (λ (d : Decision). d.released) (decisions c q)) ∙ sym (map_length (λ (d : Decision). d.id) (filter (λ d. d.released) (decisions c q))) ∙ ap length decided_gone

  pub decided_number : length (decisions c q) ≡ length (filter mined_holder? (touched_recs c q))
  unfolding decisions
  decided_number = decide_length q.limits c.height c.window 0 0 (sort newer? (filter mined_holder? (entered c q))) ∙ sort_length newer? (filter mined_holder? (entered c q)) ∙ ap length (entered_mined c q)

  each_decided : (i : Id) → count (λ d. same? i d.id) (decisions c q) ≡ count (λ r. mined_holder? r && same? i r.id) (entered c q)
  unfolding decisions
  each_decided i =
      decide_count q.limits c.height c.window i 0 0 (sort newer? (filter mined_holder? (entered c q)))
      ∙ sort_total newer? (λ r. one (same? i r.id)) (filter mined_holder? (entered c q))
      ∙ filter_count mined_holder? (λ r. same? i r.id) (entered c q)

  decided_ids : map (λ d. d.id) (decisions c q) ≡ map (λ r. r.id) (sort newer? (filter mined_holder? (entered c q)))
  unfolding decisions
  decided_ids = decide_ids q.limits c.height c.window 0 0 (sort newer? (filter mined_holder? (entered c q)))

  fifteen : refusal (reconcile c q) ≡ cond (ltb top (q.counter + length (to_release c q))) 15 0
  unfolding reconcile refusal
  fifteen = cases (ltb top (q.counter + length (to_release c q)))
      (λ t. rw t refl)
      (λ t. cases (any? (λ r. is_some (touch c (own_of c q) r)) q.recs || not (is_empty? (to_release c q)))
      (λ u. rw (t, u) refl)
      (λ u. cases (leb (min (q.persisted + 32) top_height) c.height) (λ v. rw (t, u, v) refl) (λ v. rw (t, u, v) refl)))

  -- request P5
  pub one_pass : sound? q ≡ true → OnePass c q
  one_pass s =
      let h = one_entered c q in
      record {
        each = each_decided;
        once = λ i. let e = each_decided i in let k = h i (rising_diff q.recs (sound_of_law q s).rising) in omega (arith, e, k);
        order = decided_ids;
        gone = decided_gone;
        full = fifteen ∙ rw decided_many refl;
        number = decided_number ∙ sym (ap length (entered_mined c q)) ∙ filter_length mined_holder? (entered c q);
      }
