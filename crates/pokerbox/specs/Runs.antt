-- One step of the plain machine and the same step on bytes and files; then every list of steps.
use Rattle.std.specs.Prelude.{◌≡◌, refl, Bool, true, false, List, [], ◌∷◌, ◌++◌, ℕ, ◌+◌, ◌*◌, ◌≤◌, ◌<◌, length, drop}
use Rattle.std.proofs.Common.{ap, sym, ◌∙◌, arith, length-append, take_at, le-ltb}
use Rattle.std.proofs.Math.Option.{Option, none, some}
use Rattle.queue.specs.declared.Kind.TheVariants.{Nothing, Memory, Whole, Cursor}
use Rattle.queue.specs.paper.Answer.{Answer, Refused, Done}
use Rattle.queue.specs.Codec.{map_c, pair_c, be_c}
use Rattle.queue.specs.bytes.ReaderLaws.{false_true}
use Rattle.queue.specs.layout.FormsCodec.{store_in, area_form, store_of, queue_c, store_length}
use Rattle.queue.specs.Areas.{read_area, image}
use Rattle.queue.specs.theorems.Plain.{image_plain}
use Rattle.queue.specs.theorems.SoundParts.{Fit, fit_sound, fit_ok}
use Rattle.queue.specs.theorems.Bound.{fits_need, reads_size, fit_stands, fit_over, fit_image}
use Rattle.queue.specs.theorems.CallsKeeps.{fresh_fit, settled_fit}
use Rattle.queue.specs.Lists.{and_true}
use Rattle.queue.specs.layout.LimitsAs.{shares_whole, limits_again}
use Rattle.queue.specs.paper.Lists.{maybe}
use Rattle.queue.specs.paper.Records.{Bytes, Limits, Queue}
use Rattle.queue.specs.paper.Sound.{in_range, shares_right?, limits_right?, need}
use Rattle.queue.specs.paper.Area.{area_bytes, image_bytes, over}
use Rattle.queue.specs.paper.Kinds.{newest}
use Rattle.queue.specs.paper.Changing.{moved}
use Rattle.queue.specs.paper.Calls.{Call, Worked, work, next_area, fresh, fresh_of, settle_of, by_kind}
use Rattle.image.specs.paper.Image.{image_of, open_of}
use Rattle.pokerbox.specs.paper.Machine.{Fate, kept, failed, cut_before, cut_after, Lent, Step, call, cut, run, Plain, restart, settling, plain_step, World, image_text, fresh_under, starts, restarted, settled_in, settling_bytes, world_step, tells}
use Rattle.pokerbox.specs.paper.Claim.{by_answer, mover, moved_by, moved_last, StepOk, StepsOk, CallOk}
use Rattle.pokerbox.specs.Answers.{Good, call_is, work_good}

-- ---- names for what the claim says

-- the image's cursor; the first file
abbrev pub image_cursor : Option Queue → ℕ
image_cursor o = maybe 0 (λ q. q.cursor) o

abbrev pub images : Option Queue → Option Bytes
images o = maybe none (λ q. some (image_bytes q)) o

-- the output to the image writer is long enough, should a write be due
abbrev pub TextOk : Answer → Queue → Bytes → Type 0
TextOk a next text = by_kind a false false true true ≡ true → length (image_bytes next) ≤ length text

-- ---- the parts of a step

-- how long an image can be: two digits a byte of the area, and a line end for each frame
pub image_room_law : (q : Queue) → Fit q → length (image_bytes q) ≤ 2 * need q.limits + (2 * q.limits.P + q.limits.T + 1)
unfolding image queue_c map_c pair_c
image_room_law q f =
    let e : image newest q ≡ image_bytes q = image_plain newest q in
    let s = store_length (store_of q) in
    let n = fits_need q (fit_sound q f) (fit_ok q f) in
    let a = length-append ((be_c 4).enc q.persisted) ((store_in area_form).enc (store_of q)) in
    let c = f.sound.few in
    omega (arith, ap length e)

image_text_law : (area text : Bytes) (q : Queue) → read_area area ≡ some q → length (image_bytes q) ≤ length text → image_text area text ≡ image_bytes q
unfolding image_text image_of over
image_text_law area text q e h =
    rw (e, le-ltb (length text) (length (image_bytes q)) h) (take_at (image_bytes q) (drop (length (image_bytes q)) text) (length (image_bytes q)) refl)

-- a stored queue fits, with the cursor's height as its persisted height, under the limits that the list began with
abbrev pub StoredOk : Limits → Option Queue → Type 0
StoredOk m none = Unit {0}
StoredOk m (some q) = Fit q × ((q.persisted ≡ q.cursor) × (q.limits ≡ m))

pub fresh_is : (m : Limits) (other : Bytes) → limits_right? m ≡ true → need m ≤ length other → fresh_under m other ≡ (Done Nothing, over (area_bytes (fresh m)) other)
unfolding fresh_under fresh_of
fresh_is m other r h =
    let l = shares_whole m r in
    let e = limits_again m r in
    let z = and_true (in_range m) (shares_right? m) r in
    rw (l, e, z.0, z.1, le-ltb (length other) (need m) h)

open_is : (q : Queue) (other : Bytes) → Fit q → q.persisted ≡ q.cursor → need q.limits ≤ length other → open_of (image_bytes q) other ≡ (Done Nothing, over (area_bytes q) other)
unfolding open_of
open_is q other f e h = rw (fit_image q f e, le-ltb (length other) (need q.limits) h)

-- opening sets persisted to the cursor height, where an image's queue has it already
level : (q : Queue) → q.persisted ≡ q.cursor → moved q.cursor q.cursor q.tip q ≡ q
unfolding moved
level q e = ap (λ (n : ℕ). moved n q.cursor q.tip q) (sym e)

pub starts_is : (m : Limits) (o : Option Queue) (other : Bytes) → limits_right? m ≡ true → StoredOk m o → need m ≤ length other
    → starts m (images o) other ≡ (Done Nothing, over (area_bytes (restart m o).queue) other)
unfolding starts
starts_is m none other r s h = fresh_is m other r h
starts_is m (some q) other r s h =
    let e = ap need s.1.1 in
    open_is q other s.0 s.1.0 (omega arith) ∙ ap (λ x. (Done Nothing, over (area_bytes x) other)) (sym (level q s.1.0))

module _ (cur next : Bytes) (q x : Queue) (e : read_area cur ≡ some q) (d : read_area next ≡ some x) where
  settle_kept2 : settle_of cur next 2 0 ≡ (Done Nothing, next)
  unfolding settle_of
  settle_kept2 = rw (e, d)

  settle_kept3 : settle_of cur next 3 0 ≡ (Done Nothing, next)
  unfolding settle_of
  settle_kept3 = rw (e, d)

  settle_failed2 : need q.limits ≤ length next → settle_of cur next 2 1 ≡ (Refused 17, over (area_bytes q) next)
  unfolding settle_of
  settle_failed2 h = rw (e, le-ltb (length next) (need q.limits) h)

  settle_failed3 : settle_of cur next 3 1 ≡ (Refused 17, over (area_bytes (moved q.persisted x.cursor x.tip x)) next)
  unfolding settle_of
  settle_failed3 = rw (e, d)

-- ---- what holds between steps

-- of the plain machine alone; near: a successful reconciliation moved the cursor last
pub record Inv (m : Limits) (near : Bool) (p : Plain) : Type 0 where
  pub fit : Fit p.queue
  pub limits : p.queue.limits ≡ m
  pub stored : StoredOk m p.stored
  pub tied : p.queue.persisted ≡ image_cursor p.stored
  pub recs : (restart m p.stored).queue.recs ≡ p.queue.recs
  pub close : near ≡ true → p.queue.cursor < p.queue.persisted + 32

-- of the area and the file beside it
pub record Rep (p : Plain) (w : World) : Type 0 where
  pub later : Bytes
  pub area : w.area ≡ area_bytes p.queue ++ later
  pub file : w.file ≡ images p.stored

-- the same answer, and both again
pub record Same {A : Type 0} (m : Limits) (near : Bool) (u : A × Plain) (v : A × World) : Type 0 where
  pub told : v.0 ≡ u.0
  pub inv : Inv m near u.1
  pub rep : Rep u.1 v.1

pub restart_inv : (m : Limits) (near : Bool) (o : Option Queue) → limits_right? m ≡ true → StoredOk m o → Inv m near (restart m o)
unfolding moved
restart_inv m near none r s = record { fit = fresh_fit m r; limits = refl; stored = tt; tied = refl; recs = refl; close = λ _. omega arith }
restart_inv m near (some q) r s =
    let k = s.1.0 in
    record { fit = rw (level q k) s.0; limits = s.1.1; stored = s; tied = refl; recs = refl; close = λ _. omega arith }

restart_stored : (m : Limits) (o : Option Queue) → images o ≡ images (restart m o).stored
restart_stored m none = refl
restart_stored m (some q) = refl

-- ---- a step

module _ (m : Limits) (range : limits_right? m ≡ true) (old : Bool) (p : Plain) (w : World) (l : Lent) (inv : Inv m old p) (rep : Rep p w) (room : need m ≤ length l.other) where
  cur_reads : read_area w.area ≡ some p.queue
  cur_reads = ap read_area rep.area ∙ fit_stands p.queue inv.fit rep.later

  cut_rep : (second : Option Bytes) → Rep (restart m p.stored) (restarted m l.other w.file second)
  unfolding over
  cut_rep second = record {
    later = drop (length (area_bytes (restart m p.stored).queue)) l.other;
    area = ap (λ f. (starts m f l.other).1) rep.file ∙ ap (λ z. z.1) (starts_is m p.stored l.other range inv.stored room);
    file = rep.file ∙ restart_stored m p.stored;
  }

  cut_same : {A : Type 0} (a : A) (second : Option Bytes) (near : Bool) → Same m near (a, restart m p.stored) (a, restarted m l.other w.file second)
  cut_same a second near = record { told = refl; inv = restart_inv m near p.stored range inv.stored; rep = cut_rep second }

  -- a write of x that was due
  module _ (new : Bool) (x : Queue) (fit : Fit x) (limits : x.limits ≡ m) (even : x.persisted ≡ x.cursor) (text : length (image_bytes x) ≤ length l.text) where
    abbrev next : Bytes
    next = over (area_bytes x) l.next

    next_reads : read_area (over (area_bytes x) l.next) ≡ some x
    next_reads = fit_over x fit l.next

    image_is : image_text next l.text ≡ image_bytes x
    image_is = image_text_law next l.text x next_reads text

    kept_same : (s : Answer × Bytes) → s ≡ (Done Nothing, next)
        → Same m new (some (Done Nothing), record { queue = x; stored = some x }) (settled_in s (some (image_text next l.text)) none)
    unfolding over moved
    kept_same s e = record {
      told = ap (λ z. some z.0) e;
      inv = record { fit = fit; limits = limits; stored = (fit, (even, limits)); tied = even; recs = refl; close = λ _. omega arith };
      rep = record { later = drop (length (area_bytes x)) l.next; area = ap (λ z. z.1) e; file = ap some image_is };
    }

    after_same : Same {A = Option Answer} m new (none, restart m (some x)) (none, restarted m l.other (some (image_text next l.text)) none)
    unfolding over
    after_same = record {
      told = refl;
      inv = restart_inv m new (some x) range (fit, (even, limits));
      rep = record {
        later = drop (length (area_bytes (restart m (some x)).queue)) l.other;
        area = ap (λ f. (starts m (some f) l.other).1) image_is ∙ ap (λ z. z.1) (starts_is m (some x) l.other range (fit, (even, limits)) room);
        file = ap some image_is;
      };
    }

    back_same : (second : Option Bytes) → Same m old (some (Refused 17), record { queue = p.queue; stored = p.stored }) (settled_in (settle_of w.area next 2 1) w.file second)
    unfolding over
    back_same second =
        let n = reads_size next x next_reads in
        let a = ap need limits in
        let b = ap need inv.limits in
        let e = settle_failed2 w.area next p.queue x cur_reads next_reads (omega arith) in
        record {
          told = ap (λ z. some z.0) e;
          inv = inv;
          rep = record { later = drop (length (area_bytes p.queue)) next; area = ap (λ z. z.1) e; file = rep.file };
        }

    lost_same : (second : Option Bytes) → x.recs ≡ p.queue.recs
        → Same m false (some (Refused 17), record { queue = moved p.queue.persisted x.cursor x.tip x; stored = p.stored }) (settled_in (settle_of w.area next 3 1) w.file second)
    unfolding over moved
    lost_same second h =
        let e = settle_failed3 w.area next p.queue x cur_reads next_reads in
        record {
          told = ap (λ z. some z.0) e;
          inv = record { fit = settled_fit p.queue x inv.fit fit; limits = limits; stored = inv.stored; tied = inv.tied; recs = inv.recs ∙ sym h; close = λ z. false_true z };
          rep = record { later = drop (length (area_bytes (moved p.queue.persisted x.cursor x.tip x))) next; area = ap (λ z. z.1) e; file = rep.file };
        }

    whole_same : (fate : Fate) → Same m (by_answer old new fate (Done Whole)) (settling m p x fate (Done Whole)) (settling_bytes m w l next fate (Done Whole))
    whole_same kept = kept_same (settle_of w.area next 2 0) (settle_kept2 w.area next p.queue x cur_reads next_reads)
    whole_same (failed second) = back_same second
    whole_same (cut_before second) = cut_same none second false
    whole_same cut_after = after_same

    cursor_same : (fate : Fate) → x.recs ≡ p.queue.recs → Same m (by_answer old new fate (Done Cursor)) (settling m p x fate (Done Cursor)) (settling_bytes m w l next fate (Done Cursor))
    cursor_same kept h = kept_same (settle_of w.area next 3 0) (settle_kept3 w.area next p.queue x cur_reads next_reads)
    cursor_same (failed second) h = lost_same second h
    cursor_same (cut_before second) h = cut_same none second false
    cursor_same cut_after h = after_same

  settle_same : (new : Bool) (a : Answer) (x : Queue) (fate : Fate) → Good new p.queue a x → TextOk a x l.text
      → Same m (by_answer old new fate a) (settling m p x fate a) (settling_bytes m w l (next_area a x l.next) fate a)
  unfolding over
  settle_same new (Refused n) x fate h t = record { told = refl; inv = inv; rep = rep }
  settle_same new (Done Nothing) x fate h t = record { told = refl; inv = inv; rep = rep }
  settle_same new (Done Memory) x fate h t = record {
    told = refl;
    inv = record { fit = h.0.fit; limits = h.0.limits ∙ inv.limits; stored = inv.stored; tied = h.0.level ∙ inv.tied; recs = inv.recs ∙ sym h.1.0; close = h.1.1 };
    rep = record { later = drop (length (area_bytes x)) l.next; area = refl; file = rep.file };
  }
  settle_same new (Done Whole) x fate h t = whole_same new x h.0.fit (h.0.limits ∙ inv.limits) h.0.level (t refl) fate
  settle_same new (Done Cursor) x fate h t = cursor_same new x h.0.fit (h.0.limits ∙ inv.limits) h.0.level (t refl) fate h.1

  call_same : (c : Call) (fate : Fate) → CallOk c → TextOk (work c p.queue (length l.next) (length l.out)).answer (work c p.queue (length l.next) (length l.out)).next l.text
      → Same m (moved_by p old (call c l fate)) (plain_step m p (call c l fate)) (world_step m w (call c l fate))
  unfolding plain_step world_step
  call_same c fate o t =
      let g = work_good c p.queue (length l.next) (length l.out) old o inv.fit in
      rw (call_is c w.area l.next l.out p.queue cur_reads) (tell (work c p.queue (length l.next) (length l.out)) g t)
    where
      tell : (k : Worked) → Good (mover c p.queue old) p.queue k.answer k.next → TextOk k.answer k.next l.text
          → Same m (by_answer old (mover c p.queue old) fate k.answer)
          (tells k.answer (over k.bytes l.out) (settling m p k.next fate k.answer))
          (tells k.answer (over k.bytes l.out) (settling_bytes m w l (next_area k.answer k.next l.next) fate k.answer))
      tell k g t =
          let s = settle_same (mover c p.queue old) k.answer k.next fate g t in
          record { told = ap (λ z. record { answer = k.answer; out = over k.bytes l.out; settled = z }) s.told; inv = s.inv; rep = s.rep }

pub step_same : (m : Limits) → limits_right? m ≡ true → (old : Bool) (p : Plain) (w : World) (x : Step) → Inv m old p → Rep p w → StepOk m p x
    → Same m (moved_by p old x) (plain_step m p x) (world_step m w x)
unfolding plain_step world_step
step_same m range old p w (call c l fate) inv rep o = call_same m range old p w l inv rep o.1.1 c fate o.0 o.1.0
step_same m range old p w (cut l) inv rep o = cut_same m range old p w l inv rep o (record { answer = Done Nothing; out = l.out; settled = none }) w.second false

-- ---- every list

pub run_same : (m : Limits) → limits_right? m ≡ true → (xs : List Step) (old : Bool) (p : Plain) (w : World) → Inv m old p → Rep p w → StepsOk m p xs
    → Same m (moved_last m p old xs) (run (plain_step m) p xs) (run (world_step m) w xs)
run_same m range [] old p w inv rep o = record { told = refl; inv = inv; rep = rep }
run_same m range (x ∷ xs) old p w inv rep o =
    let s = step_same m range old p w x inv rep o.0 in
    let k = run_same m range xs (moved_by p old x) (plain_step m p x).1 (world_step m w x).1 s.inv s.rep o.1 in
    record { told = cc (s.told, k.told); inv = k.inv; rep = k.rep }
