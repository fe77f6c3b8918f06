use Rattle.queue.specs.bytes.ViewAs.{view}
-- The rows of a plan: in one number, gathered over the records, and applied. Assumes nothing.
use Rattle.std.specs.Prelude.{◌≡◌, refl, Bool, true, false, cond, not, ◌&&◌, ◌||◌, List, [], ◌∷◌, ◌++◌, ℕ, ◌+◌, ◌-◌, ◌*◌, ◌/◌, ◌%◌, ◌^◌, ◌≤◌, ◌<◌, leb, eqb, length, take, get_or, set}
use Rattle.std.proofs.Common.{ap, sym, ◌∙◌, ⊎_elim, inl, inr, append_assoc, append-nil, arith, add-one, length-append, length-set, take-suc-set, eq-eqb, ne_eqb, eqb-true}
use Rattle.queue.proofs.check.AreaLaws.{fit, recs_here}
use Rattle.queue.specs.check.AreaAs.{AreaIn}
use Rattle.queue.specs.Codec.{All, cases, encs}
use Rattle.queue.specs.Lists.{and_true}
use Rattle.queue.specs.layout.FrameCodec.{rec_c}
use Rattle.queue.specs.bytes.ReaderAs.{whole, list_at, reads?}
use Rattle.queue.specs.bytes.ReaderLaws.{Turn, none_left}
use Rattle.queue.specs.layout.FormsCodec.{form_c, turn_in, stands_in}
use Rattle.queue.specs.layout.FrameAs.{facts_of}
use Rattle.queue.specs.theorems.Plain.{rec_plain}
use Rattle.queue.specs.read.FindAs.{recs_in}
use Rattle.queue.specs.change.TouchAs.{as_touched, verdict_of_value}
use Rattle.queue.specs.change.RanksAs.{numbered}
use Rattle.queue.specs.change.VerdictAs.{verdict_code}
use Rattle.queue.specs.declared.change.verdict.Verdict.{Verdict}
use Rattle.queue.specs.declared.change.verdict.Verdict.TheVariants.{Forgotten}
use Rattle.queue.specs.change.PlanAs.{row_of, Packs, idle?, RowAdded, state_f, reason_f, state_n, reason_n, mark_n, place_after, becomes, number_n, verdict_in_value, made, RowFit, edited, RowsAt, row_made, RowFits, Planned, stay_f}
use Rattle.queue.specs.paper.Records.{Bytes, Rec}
use Rattle.queue.specs.paper.Lists.{maybe}
use Rattle.queue.specs.paper.Area.{rec_under}
use Rattle.queue.specs.paper.Changing.{confirm, finished, reopened}
use Rattle.queue.specs.declared.check.area.Area.{Area}
use Rattle.queue.specs.declared.layout.frame.Seen.{Seen}
use Rattle.queue.specs.declared.layout.frame.Facts.{Facts}
use Rattle.queue.specs.change.PlanAs.{RowNumbers}
use Rattle.queue.specs.change.TouchAs.{VerdictNumbers}
use Rattle.queue.proofs.layout.TurnLaws.{SeenIn, FoundRec}
use Rattle.queue.proofs.change.FinishLaws.{raw_after}

-- ---- a row in one number
abbrev pub row : ℕ → ℕ → ℕ → ℕ → RowNumbers
row place index rank what = record { place = place; index = index; rank = rank; what = what }

four : {a a' b b' c c' d d' : ℕ} → a ≡ a' → b ≡ b' → c ≡ c' → d ≡ d' → row a b c d ≡ row a' b' c' d'
four e f g h = rw (e, f, g, h)

pub row_packs : (x : RowNumbers) {w : ℕ} → Packs x → w ≡ ((x.place * 4096 + x.index) * 4096 + x.rank) * 8 + x.what → row_of w ≡ x
unfolding row_of
row_packs x {w} p e =
    let i = p.index in let r = p.rank in let h = p.what in
    let a : w / 134217728 ≡ x.place = omega arith in
    let b : w / 32768 % 4096 ≡ x.index = omega arith in
    let c : w / 8 % 4096 ≡ x.rank = omega arith in
    let d : w % 8 ≡ x.what = omega arith in
    four a b c d

pub row_idle : {x : RowNumbers} (w : ℕ) {k : ℕ} {d : List ℕ} {b : Bool} → row_of w ≡ x → b ≡ (eqb x.what 0 && eqb x.rank 0) → b ≡ true → RowAdded x k d k d
unfolding idle?
row_idle {x} w {k} {d} e f t = record { w = w; is = e; rows = rw (← f, t) (sym (append-nil (take k d))); most = omega arith; long = refl }

pub row_more : {x : RowNumbers} (w : ℕ) {k : ℕ} {d : List ℕ} {b : Bool} → row_of w ≡ x → b ≡ (eqb x.what 0 && eqb x.rank 0) → b ≡ false → k < length d → RowAdded x k d (k + 1) (set d k w)
unfolding idle?
row_more {x} w {k} {d} e f t h = record { w = w; is = e; rows = rw (← f, t, add-one) (take-suc-set d k w h); most = omega arith; long = length-set d k w }

-- ---- what a row makes of its record
module _ (t : Bytes) (vs : List ℕ) (c place index : ℕ) (r : Rec) where
  pub made_same : made t vs c (row place index 0 0) r ≡ r ∷ []
  unfolding made becomes number_n state_n reason_n mark_n place_after facts_of
  made_same = refl

  pub made_again : made t vs c (row place index 0 4) r ≡ reopened r ∷ []
  unfolding made becomes number_n state_n reason_n mark_n place_after facts_of state_f reason_f reopened
  made_again = refl

  pub made_out : (rank : ℕ) → made t vs c (row place index rank 7) r ≡ []
  unfolding made
  made_out rank = refl

  module _ (rank : ℕ) (h : eqb (number_n c rank) 0 ≡ false) where
    pub made_cancelled : made t vs c (row place index rank 5) r ≡ finished 4 1 (number_n c rank) r ∷ []
    unfolding made becomes state_n reason_n mark_n place_after facts_of finished
    made_cancelled = rw h

    pub made_expired : made t vs c (row place index rank 6) r ≡ finished 5 2 (number_n c rank) r ∷ []
    unfolding made becomes state_n reason_n mark_n place_after facts_of finished
    made_expired = rw h

-- after a reconciliation's verdict
pub become_judged : (t : Bytes) (v : VerdictNumbers) (n : ℕ) (r : Rec) → v.what < 4 → becomes t v n r ≡ numbered n (maybe r (λ y. y) (as_touched t v r))
unfolding becomes state_n reason_n mark_n place_after facts_of numbered as_touched confirm finished
become_judged t v n r h =
    let a : eqb v.what 4 ≡ false = ne_eqb v.what 4 (λ e. let y : ⊥ = omega arith in y) in
    let b : eqb v.what 5 ≡ false = ne_eqb v.what 5 (λ e. let y : ⊥ = omega arith in y) in
    let c : eqb v.what 6 ≡ false = ne_eqb v.what 6 (λ e. let y : ⊥ = omega arith in y) in
    cases (eqb n 0)
    (λ z. cases (eqb v.what 0)
    (λ d. rw (a, b, c, z, d, one_not d))
    (λ d. cases (eqb v.what 1)
    (λ e. rw (a, b, c, z, d, e))
    (λ e. cases (eqb v.what 2) (λ f. rw (a, b, c, z, d, e, f)) (λ f. rw (a, b, c, z, d, e, f)))))
    (λ z. cases (eqb v.what 0)
    (λ d. rw (a, b, c, z, d, one_not d))
    (λ d. cases (eqb v.what 1)
    (λ e. rw (a, b, c, z, d, e))
    (λ e. cases (eqb v.what 2) (λ f. rw (a, b, c, z, d, e, f)) (λ f. rw (a, b, c, z, d, e, f)))))
  where
    one_not : eqb v.what 0 ≡ true → eqb v.what 1 ≡ false
    one_not a = let z = eqb-true v.what 0 a in ne_eqb v.what 1 (λ e. let y : ⊥ = omega arith in y)

-- a row's verdict, as the record's own verdict has it
pub verdict_read : (vs : List ℕ) (x : RowNumbers) → x.what ≡ 1 → get_or vs x.index 0 % 4 ≡ 1 → verdict_of_value (get_or vs x.index 0) ≡ verdict_in_value vs x
unfolding verdict_of_value
verdict_read vs x e z = two (z ∙ sym e) (ap (λ b. cond b (68 * (get_or vs x.index 0 / 4)) 0) (eq-eqb _ 1 z ∙ sym (eq-eqb x.what 1 e)))
  where
    two : {a a' b b' : ℕ} → a ≡ a' → b ≡ b' → ◌≡◌ {A = VerdictNumbers} (record { what = a; at = b }) (record { what = a'; at = b' })
    two e f = rw (e, f)

-- what becomes of a record, or it is forgotten
pub fate_is : (b : Bool) (w : Verdict) {r : Verdict} {v : ℕ} → r ≡ cond b w Forgotten → verdict_code w ≡ v → verdict_code r ≡ cond b v 7
fate_is true w e f = ap verdict_code e ∙ f
fate_is false w e f = ap verdict_code e

-- ---- numbers, and staying
pub number_0 : (c r : ℕ) → r ≡ 0 → 0 ≡ number_n c r
unfolding number_n
number_0 c r h = rw (eq-eqb r 0 h)

pub number_1 : (c r : ℕ) → (r ≡ 0 → ⊥) → c + r ≡ number_n c r
unfolding number_n
number_1 c r h = rw (ne_eqb r 0 h)

pub number_some : (c r : ℕ) → (r ≡ 0 → ⊥) → eqb (number_n c r) 0 ≡ false
number_some c r h = let e = number_1 c r h in ne_eqb (number_n c r) 0 (λ z. h (let y : r ≡ 0 = omega arith in y))

pub number_small : (c r : ℕ) → c + r < 18446744073709551616 → number_n c r < 256 ^ 8
unfolding number_n
number_small c r h = cases (eqb r 0) (λ a. rw a (omega arith)) (λ a. rw a (omega arith))

pub stay_out : (n floor : ℕ) (f : Facts) → (n ≡ 0 → ⊥) → leb floor n ≡ stay_f n floor f
unfolding stay_f
stay_out n floor f h = rw (ne_eqb n 0 h)

pub stay_in : (n floor : ℕ) (f : Facts) {b : Bool} → n ≡ 0 → b ≡ (f.holder || leb floor f.finish.0) → b ≡ stay_f n floor f
unfolding stay_f
stay_in n floor f h e = e ∙ rw (eq-eqb n 0 h)

-- ---- the size of a record

-- ---- rows are gathered: those so far, with any rows of the records that are left, are rows of all; where these make of the records that
-- are left what is due, those make of all the list that is due
module _ (F : ℕ → Rec → List Rec) (P : ℕ → Type 0) where
  first_row : (at : ℕ) (l : List Rec) (w : ℕ) (rows : List ℕ) → RowsAt P at l (w ∷ rows) → at ≤ (row_of w).place
  first_row at [] w rows h = absurd h
  first_row at (r ∷ l) w rows h = ⊎_elim (λ y. omega (arith, y.0)) (λ y. omega (arith, y.0)) h

  pub record Planning (at : ℕ) (l all : List Rec) (so : List ℕ) (i : ℕ) (m rest : List Rec) : Type 0 where
    pub fit : (T : List ℕ) → RowsAt P i m T → RowsAt P at l (so ++ T)
    pub is : (T : List ℕ) → RowsAt P i m T → edited F i m T ≡ rest → edited F at l (so ++ T) ≡ all

  pub planning : (at : ℕ) (l all : List Rec) → Planning at l all [] at l all
  planning at l all = record { fit = λ T h. h; is = λ T h e. e }

  skip_row : (i : ℕ) (r : Rec) (m : List Rec) → 0 < length (rec_c.enc r) → (T : List ℕ) → RowsAt P (i + length (rec_c.enc r)) m T
      → RowsAt P i (r ∷ m) T × (edited F i (r ∷ m) T ≡ r ∷ edited F (i + length (rec_c.enc r)) m T)
  unfolding edited
  skip_row i r m p [] h = (tt, none_more m)
    where
      none_more : (m : List Rec) → (r ∷ m) ≡ r ∷ edited F (i + length (rec_c.enc r)) m []
      none_more [] = refl
      none_more (x ∷ m) = refl
  skip_row i r m p (w ∷ T) h =
      let k = first_row (i + length (rec_c.enc r)) m w T h in
      (inr (k, h), rw (ne_eqb (row_of w).place i (λ e. let y : ⊥ = omega arith in y)))

  module _ {at i : ℕ} {l all m rest : List Rec} {so : List ℕ} {r : Rec} (p : 0 < length (rec_c.enc r)) where
    plan_keep : Planning at l all so i (r ∷ m) (r ∷ rest) → Planning at l all so (i + length (rec_c.enc r)) m rest
    plan_keep g = record {
      fit = λ T h. g.fit T (skip_row i r m p T h).0;
      is = λ T h e. let k = skip_row i r m p T h in g.is T k.0 (k.1 ∙ ap (λ (z : List Rec). r ∷ z) e);
    }

    plan_row : (w : ℕ) → (row_of w).place ≡ i → P w → Planning at l all so i (r ∷ m) (F w r ++ rest) → Planning at l all (so ++ (w ∷ [])) (i + length (rec_c.enc r)) m rest
    unfolding edited
    plan_row w e f g = record {
      fit = λ T h. rw append_assoc (g.fit (w ∷ T) (inl (e, f, h)));
      is = λ T h k. rw append_assoc (g.is (w ∷ T) (inl (e, f, h)) (rw (eq-eqb (row_of w).place i e) (ap (λ (z : List Rec). F w r ++ z) k)));
    }

    -- a record more: with its row, or without one
    pub plan_go : {step : List Rec} {so' : List ℕ} {b : Bool} {w : ℕ} → Planning at l all so i (r ∷ m) (step ++ rest) → so' ≡ so ++ cond b [] (w ∷ []) → (row_of w).place ≡ i → P w → F w r ≡ step → (b ≡ true → step ≡ r ∷ []) → Planning at l all so' (i + length (rec_c.enc r)) m rest
    plan_go {step} {so'} {b} {w} g e f h k n = rw e (cases b
        (λ t. rw (t, append-nil) (plan_keep (rw (n t) at g)))
        (λ t. rw t (plan_row w f h (rw (sym k) at g))))

  pub plan_at : {at i j : ℕ} {l all m rest : List Rec} {so : List ℕ} → i ≡ j → Planning at l all so i m rest → Planning at l all so j m rest
  plan_at e g = rw (← e) g

  pub plan_end : {at i : ℕ} {l all : List Rec} {so : List ℕ} → Planning at l all so i [] [] → RowsAt P at l so × (edited F at l so ≡ all)
  unfolding edited
  plan_end {so = so} g = (rw append-nil at (g.fit [] tt), rw append-nil at (g.is [] tt refl))

  -- ---- rows are applied: the first one, with the records before it
  pub record Reached (at : ℕ) (l : List Rec) (w : ℕ) (rows : List ℕ) : Type 0 where
    pub before : List Rec
    pub r : Rec
    pub behind : List Rec
    pub list : l ≡ before ++ (r ∷ behind)
    pub place : (row_of w).place ≡ at + length (encs rec_c before)
    pub fit : P w
    pub rest : RowsAt P ((row_of w).place + length (rec_c.enc r)) behind rows
    pub is : edited F at l (w ∷ rows) ≡ before ++ (F w r ++ edited F ((row_of w).place + length (rec_c.enc r)) behind rows)

  pub reach : (at : ℕ) (l : List Rec) (w : ℕ) (rows : List ℕ) → All (λ r. 0 < length (rec_c.enc r)) l → RowsAt P at l (w ∷ rows) → Reached at l w rows
  unfolding edited encs
  reach at [] w rows z h = absurd h
  reach at (r ∷ l) w rows z h = ⊎_elim
      (λ y. record {
        before = [];
        r = r;
        behind = l;
        list = refl;
        place = omega (arith, y.0);
        fit = y.1;
        rest = rw y.0 y.2;
        is = rw (eq-eqb (row_of w).place at y.0, y.0);
      })
      (λ y.
      let i = reach (at + length (rec_c.enc r)) l w rows z.1 y.1 in
      record {
        before = r ∷ i.before;
        r = i.r;
        behind = i.behind;
        list = ap (λ (k : List Rec). r ∷ k) i.list;
        place = i.place ∙ omega (arith, length-append (rec_c.enc r) (encs rec_c i.before));
        fit = i.fit;
        rest = i.rest;
        is = rw (ne_eqb (row_of w).place at (λ e. let n = z.0 in let u = y.0 in let x : ⊥ = omega arith in x)) (ap (λ (k : List Rec). r ∷ k) i.is);
      })
      h

pub no_rows : (F : ℕ → Rec → List Rec) (at : ℕ) (l : List Rec) → edited F at l [] ≡ l
unfolding edited
no_rows F at [] = refl
no_rows F at (r ∷ l) = refl

pub no_rows_at : (P : ℕ → Type 0) (at : ℕ) (l : List Rec) → RowsAt P at l []
no_rows_at P at [] = tt
no_rows_at P at (r ∷ l) = tt

-- ---- the records of an area, one after another
pub few_records : {s : Bytes} {a : Area} → AreaIn s a → a.open.head.count ≤ 3072
few_records w = let g = (fit w.read).sound in omega (arith, w.read.store.count, g.few, g.range.P-high, g.range.T-high)

pub rec_some : (r : Rec) → 0 < length (rec_c.enc r)
unfolding rec_under
rec_some r = let e = ap length (rec_plain r) in omega arith

pub record Visiting (s : Bytes) (at n i left : ℕ) : Type 0 where
  pub within : i ≤ length s
  pub all : whole (form_c false rec_c) left s i ≡ true
  pub ends : i + length (encs rec_c (list_at (form_c false rec_c) left s i)) ≡ at + length (encs rec_c (list_at (form_c false rec_c) n s at))
  pub few : left ≤ n

pub visiting : {s : Bytes} {a : Area} → AreaIn s a → Visiting s a.open.start a.open.head.count a.open.start a.open.head.count
visiting w = let st = w.read.store in record { within = omega (arith, st.up, st.ends); all = st.all; ends = refl; few = omega arith }

pub visit_low : {s : Bytes} {a : Area} {i left : ℕ} → Visiting s a.open.start a.open.head.count i left → AreaIn s a → i < 4294967296
visit_low g w = let st = w.read.store in omega (arith, g.ends, ap (λ l. length (encs rec_c l)) st.list, (recs_here w.read).1, st.up, w.read.fits, w.read.small)

pub visit_stands : {s : Bytes} {at n i left : ℕ} → Visiting s at n i left → 0 < left → reads? rec_c (view false s i) 0 ≡ true
visit_stands {s} {left = left} g p = stands_in rec_c false s left g.within g.all p

module _ {s : Bytes} {at n i left : ℕ} (g : Visiting s at n i left) {x : Seen} (p : 0 < left) (r : FoundRec false s i x.size x) where
  pub visit_turn : Turn (form_c false rec_c) s left i (i + x.size) (SeenIn false s i x.size x)
  visit_turn = rw (raw_after s i x.size) (turn_in false left g.within g.all p r)

  visit_on : Visiting s at n (i + x.size) (left - 1)
  unfolding encs
  visit_on =
      let T = visit_turn in
      record {
        within = T.within;
        all = T.rest;
        ends =
            let e = ap (λ l. length (encs rec_c l)) T.list in
            omega (arith, g.ends, T.is.1.size, length-append (rec_c.enc T.item) (encs rec_c (list_at (form_c false rec_c) (left - 1) s (i + x.size))));
        few = omega (arith, g.few);
      }

-- a row was put, or none was needed
idle_made : (t : Bytes) (vs : List ℕ) (c : ℕ) (x : RowNumbers) (r : Rec) → idle? x ≡ true → made t vs c x r ≡ r ∷ []
unfolding idle?
idle_made t vs c x r e =
    let k = and_true (eqb x.what 0) (eqb x.rank 0) e in
    let y : x ≡ row x.place x.index 0 0 = four refl refl (eqb-true x.rank 0 k.1) (eqb-true x.what 0 k.0) in
    ap (λ z. made t vs c z r) y ∙ made_same t vs c x.place x.index r

pub made_long : (t : Bytes) (vs : List ℕ) (c : ℕ) (x : RowNumbers) (r : Rec) → length (made t vs c x r) ≡ cond (not (eqb x.what 7)) 1 0
unfolding made
made_long t vs c x r = cases (eqb x.what 7) (λ e. rw e) (λ e. rw e)

-- the loop of a planner: all is what is due of all records, rest of those that are left
pub record PlanLoop (s : Bytes) (at n c : ℕ) (t : Bytes) (vs : List ℕ) (all : List Rec) (d : List ℕ) (i left k many : ℕ) (rest : List Rec) : Type 0 where
  pub visit : Visiting s at n i left
  pub rows : k + left ≤ n
  pub long : length d ≡ 3072
  pub plan : Planning (row_made c t vs) (RowFits c t vs) at (list_at (form_c false rec_c) n s at) all (take k d) i (list_at (form_c false rec_c) left s i) rest
  pub count : many + length rest ≡ length all
  pub less : many + left ≤ n

pub plan_loop : {s : Bytes} {a : Area} (c : ℕ) (t : Bytes) (vs : List ℕ) (all : List Rec) (d : List ℕ) → AreaIn s a → length d ≡ 3072 → PlanLoop s a.open.start a.open.head.count c t vs all d a.open.start a.open.head.count 0 0 all
plan_loop {s} {a} c t vs all d w l = record { visit = visiting w; rows = omega arith; long = l; plan = planning (row_made c t vs) (RowFits c t vs) a.open.start (recs_in s a) all; count = omega arith; less = omega arith }

module _ {s : Bytes} {at n c : ℕ} {t : Bytes} {vs : List ℕ} {all : List Rec} {d : List ℕ} {i left k many : ℕ} {rest : List Rec} (g : PlanLoop s at n c t vs all d i left k many rest) where
  module _ {y : Seen} (p : 0 < left) (r : FoundRec false s i y.size y) {x : RowNumbers} {k' m : ℕ} {d' : List ℕ} {rest' : List Rec} where
    pub plan_next : RowAdded x k d k' d' → x.place ≡ i → RowFit t vs c x → rest ≡ made t vs c x (visit_turn g.visit p r).item ++ rest' → m ≡ cond (not (eqb x.what 7)) 1 0
        → PlanLoop s at n c t vs all d' (i + y.size) (left - 1) k' (many + m) rest'
    plan_next A e f h b =
        let T = visit_turn g.visit p r in
        let L = made_long t vs c x T.item in
        let z : i + y.size ≡ i + length (rec_c.enc T.item) = omega (arith, T.is.1.size) in
        let G = rw (T.list, h) at g.plan in
        let u : made t vs c (row_of A.w) T.item ≡ made t vs c x T.item = ap (λ v. made t vs c v T.item) A.is in
        let v : (row_of A.w).place ≡ i = ap (λ v. v.place) A.is ∙ e in
        let q : RowFit t vs c (row_of A.w) = rw A.is f in
        let m1 : m ≤ 1 = rw b (cases (not (eqb x.what 7)) (λ e. rw e (omega arith)) (λ e. rw e (omega arith))) in
        record {
          visit = visit_on g.visit p r;
          rows = omega (arith, g.rows, A.most);
          long = A.long ∙ g.long;
          plan = plan_at (row_made c t vs) (RowFits c t vs) (sym z) (plan_go (row_made c t vs) (RowFits c t vs) (rec_some T.item) G A.rows v q u (λ b. idle_made t vs c x T.item b));
          count = omega (arith, g.count, ap length h, length-append (made t vs c x T.item) rest', L, b);
          less = omega (arith, g.less, m1);
        }

module _ {s : Bytes} {a : Area} {c : ℕ} {t : Bytes} {vs : List ℕ} {all : List Rec} {d : List ℕ} {i left k many : ℕ} {rest : List Rec} (g : PlanLoop s a.open.start a.open.head.count c t vs all d i left k many rest) (w : AreaIn s a) where
  pub plan_room : 0 < left → k < length d
  plan_room p = let f = few_records w in omega (arith, g.rows, g.long)

  pub plan_close : c ≡ a.open.head.counter.0 → left ≡ 0 → rest ≡ [] → Planned s a t vs (take k d) all many × (k ≤ 3072)
  plan_close e z b =
      let l = (none_left (form_c false rec_c) s left i z).0 in
      let h = plan_end (row_made c t vs) (RowFits c t vs) (rw (l, b) at g.plan) in
      (record { fit = rw (← e) h.0; are = rw (← e) h.1; count = omega (arith, g.count, ap length b); few = omega (arith, g.less) }, (let f = few_records w in omega (arith, g.rows)))
