-- Demand 3. A queue starts fresh with nothing stored. Whatever list of admissions, cancellations, expiries, reconciliations,
-- reopenings and cursor settings follows, whichever writes fail and wherever power is cut: all answers, the bytes of the area
-- and the first file are those of the plain machine fed the same; opening gives the records of its queue; no input id is in
-- two records; the bounds hold.
--
-- It rests on the definitions of document 01's calls (queue, image) and not on code: that the exported functions do on bytes
-- what `call_of`, `settle_of`, `image_of`, `open_of` and `fresh_of` say is each function's contract. It takes from the node what
-- `Machine` says of it: who lends what, what a write does to the first file, and that nobody else writes meanwhile.
use Rattle.std.specs.Prelude.{◌≡◌, refl, Bool, true, false, List, [], ◌∷◌, ◌++◌, ℕ, ◌+◌, ◌*◌, ◌≤◌, length, drop}
use Rattle.std.proofs.Common.{ap, ◌∙◌, arith}
use Rattle.std.proofs.Math.Option.{Option, none, some}
use Rattle.queue.specs.declared.Kind.TheVariants.{Nothing, Memory, Whole, Cursor}
use Rattle.queue.specs.paper.Answer.{Answer, Refused, Done}
use Rattle.queue.specs.Codec.{All}
use Rattle.queue.specs.Lists.{Pairwise, sub_pairwise, sub_trans}
use Rattle.queue.specs.bytes.ListLaws.{filter_sub, sort_apart}
use Rattle.queue.specs.bytes.ReaderLaws.{false_true}
use Rattle.queue.specs.Areas.{read_area}
use Rattle.queue.specs.theorems.SoundParts.{Fit, Apart, apart_sym, of_apart, of_sound}
use Rattle.queue.specs.theorems.Bound.{fit_stands}
use Rattle.queue.specs.theorems.ReconcileKeeps.{Diff, diff_sym}
use Rattle.queue.specs.theorems.Decided.{one_pass}
use Rattle.queue.specs.paper.Records.{Bytes, Limits, Rec, Queue}
use Rattle.queue.specs.paper.Lists.{filter, map}
use Rattle.queue.specs.paper.Sound.{limits_right?, need, among?, different?}
use Rattle.queue.specs.paper.Area.{area_bytes, over}
use Rattle.queue.specs.paper.Reading.{first?, selected?, selected_at, selection_at}
use Rattle.queue.specs.paper.Calls.{work, fresh, read_of, selection_at_of}
use Rattle.queue.specs.paper.Fees.{best_fees_value, candidates, size_of, fee_of, best_fees_of}
use Rattle.queue.specs.read.fees.Laws.{sub_take}
use Rattle.queue.specs.read.fees.Claims.{set_sub}
use Rattle.queue.specs.paper.Parents.{parents_first_at, parents_first_of, waits_for?}
use Rattle.queue.specs.read.parents.Laws.{inside_pairwise}
use Rattle.queue.specs.read.parents.Claims.{selected_differ, selected_once, such, parents_first}
use Rattle.pokerbox.specs.paper.Machine.{Step, call, cut, Told, run, Plain, restart, plain_step, World, world_step, fresh_under, starts}
use Rattle.pokerbox.specs.paper.Claim.{CallOk, StepOk, StepsOk, mover, moved_by, moved_last, Holds, Image, Claim, Template, Templates, BestSet, BestSets, Ordered, OrderedLists, OnePasses}
use Rattle.pokerbox.specs.Answers.{Good, work_good}
use Rattle.pokerbox.specs.Runs.{image_room_law, fresh_is, starts_is, Inv, Same, restart_inv, step_same, run_same, images, TextOk}

-- What holds between steps is what is claimed; of a world w that stands beside w', with the same area and a first file that opens
-- alike.
pub same_holds : (m : Limits) (o : Option Queue) (File : Option Bytes → Option Queue → Type 0) (xs : List Step) (told : List Told) (w w' : World) (p : List Told × Plain) → limits_right? m ≡ true
    → Same m (moved_last m (restart m o) false xs) p (told, w') → w.area ≡ w'.area → ((other : Bytes) → starts m w.file other ≡ starts m w'.file other) → File w.file p.1.stored
    → Holds m o File xs (told, w) p
unfolding over
same_holds m o File xs told w w' p range s same alike file =
    let i = s.inv in
    let r = s.rep in
    let n = ap (λ (k : Limits). 2 * k.P) i.limits in
    let b = ap (λ (k : Limits). 2 * k.B) i.limits in
    let t = ap (λ (k : Limits). k.T) i.limits in
    let c = i.tied in
    let f = i.fit.sound in
    record {
      answers = s.told;
      later = r.later;
      queue = same ∙ r.area;
      file = file;
      opening = λ other h. (drop (length (area_bytes (restart m p.1.stored).queue)) other, alike other ∙ ap (λ z. starts m z other) r.file ∙ starts_is m p.1.stored other range i.stored h);
      records = i.recs;
      limits = i.limits;
      apart = (of_apart p.1.queue.recs f.apart).0;
      read_apart = (of_apart p.1.queue.recs f.apart).1;
      holders = let z = f.few_holders in omega arith;
      bytes = let z = f.few_bytes in omega arith;
      tombstones = let z = f.few_tombs in omega arith;
      cursor = λ e. let z = i.close e in omega arith;
    }

-- where the list begins
abbrev pub world : Limits → Bytes → Option Bytes → World
world m first second = record { area = (fresh_under m first).1; file = none; second = second }

-- after every list
all_same : (m : Limits) (first : Bytes) (second : Option Bytes) (xs : List Step) → limits_right? m ≡ true → need m ≤ length first → StepsOk m (restart m none) xs
    → Same m (moved_last m (restart m none) false xs) (run (plain_step m) (restart m none) xs) (run (world_step m) (world m first second) xs)
unfolding over
all_same m first second xs range room ok = run_same m range xs false (restart m none) (world m first second) (restart_inv m false none range tt)
    (record { later = drop (length (area_bytes (fresh m))) first; area = ap (λ z. z.1) (fresh_is m first range room); file = refl }) ok

pub the_claim : Claim
unfolding Claim
the_claim m first second xs range room ok =
    let s = all_same m first second xs range room ok in
    let w = (run (world_step m) (world m first second) xs).1 in
    same_holds m none Image xs (run (world_step m) (world m first second) xs).0 w w (run (plain_step m) (restart m none) xs) range s refl (λ other. refl) s.rep.file

-- ---- what a selection answers

-- no id twice, where the records' ids differ
ids_differ : (l : List Rec) → Pairwise Diff l → different? (map (λ r. r.id) l) ≡ true
ids_differ [] h = refl
ids_differ (r ∷ l) h = rw (none l h.0) (ids_differ l h.1)
  where
    none : (l : List Rec) → All (Diff r) l → among? r.id (map (λ r. r.id) l) ≡ false
    none [] h = refl
    none (x ∷ l) h = rw h.0 (none l h.1)

all_apart : (q : Queue) (now height : ℕ) → Fit q → Pairwise Apart (selected_at now height q)
all_apart q now height f =
    sort_apart first? Apart apart_sym (filter (selected? now height) q.recs) (sub_pairwise Apart (filter_sub (selected? now height) q.recs) f.sound.apart)

pub template : (area : Bytes) (q : Queue) (now height : ℕ) → read_area area ≡ some q → Fit q → Template area q now height
unfolding selection_at_of selection_at read_of
template area q now height e f = record {
  told = λ out. rw e;
  once = ids_differ (selected_at now height q) (selected_differ now height q f.sound.rising);
  apart = (of_apart (selected_at now height q) (all_apart q now height f)).0;
  read_apart = (of_apart (selected_at now height q) (all_apart q now height f)).1;
}

pub best_set : (area : Bytes) (q : Queue) (limit budget now height : ℕ) → read_area area ≡ some q → Fit q → BestSet area q limit budget now height
unfolding best_fees_of
best_set area q limit budget now height e f =
    let s = (best_fees_value size_of fee_of (candidates now height q) limit budget).set in
    let u = sub_trans (set_sub size_of fee_of (candidates now height q) limit budget) (sub_take 20 (selected_at now height q)) in
    record {
      told = λ out. rw e refl;
      part = u;
      once = ids_differ s (sub_pairwise Diff u (selected_differ now height q f.sound.rising));
      apart = (of_apart s (sub_pairwise Apart u (all_apart q now height f))).0;
      read_apart = (of_apart s (sub_pairwise Apart u (all_apart q now height f))).1;
    }

-- the list holds selected records, none twice
pub ordered : (area : Bytes) (q : Queue) (now height : ℕ) → read_area area ≡ some q → Fit q → Ordered area q now height
unfolding parents_first_of read_of
ordered area q now height e f =
    let l = parents_first_at now height q in
    let s = such waits_for? (selected_at now height q) (selected_once now height q f.sound.rising) in
    record {
      told = λ out. rw e;
      promised = parents_first now height q f.sound.rising;
      once = ids_differ l (inside_pairwise Diff diff_sym (selected_at now height q) (selected_differ now height q f.sound.rising) l s.once s.chosen);
      apart = (of_apart l (inside_pairwise Apart apart_sym (selected_at now height q) (all_apart q now height f) l s.once s.chosen)).0;
      read_apart = (of_apart l (inside_pairwise Apart apart_sym (selected_at now height q) (all_apart q now height f) l s.once s.chosen)).1;
    }

-- after every list of steps
pub in_area : (m : Limits) (first : Bytes) (second : Option Bytes) (xs : List Step) → limits_right? m ≡ true → need m ≤ length first → StepsOk m (restart m none) xs
    → (read_area (run (world_step m) (world m first second) xs).1.area ≡ some (run (plain_step m) (restart m none) xs).1.queue) × Fit (run (plain_step m) (restart m none) xs).1.queue
in_area m first second xs range room ok =
    let s = all_same m first second xs range room ok in
    (ap read_area s.rep.area ∙ fit_stands (run (plain_step m) (restart m none) xs).1.queue s.inv.fit s.rep.later, s.inv.fit)

pub no_input_twice : Templates
unfolding Templates
no_input_twice m first second xs range room ok now height =
    let s = in_area m first second xs range room ok in
    template (run (world_step m) (world m first second) xs).1.area (run (plain_step m) (restart m none) xs).1.queue now height s.0 s.1

pub no_input_twice_in_a_block : BestSets
unfolding BestSets
no_input_twice_in_a_block m first second xs range room ok limit budget now height =
    let s = in_area m first second xs range room ok in
    best_set (run (world_step m) (world m first second) xs).1.area (run (plain_step m) (restart m none) xs).1.queue limit budget now height s.0 s.1

pub parents_first_in_a_template : OrderedLists
unfolding OrderedLists
parents_first_in_a_template m first second xs range room ok now height =
    let s = in_area m first second xs range room ok in
    ordered (run (world_step m) (world m first second) xs).1.area (run (plain_step m) (restart m none) xs).1.queue now height s.0 s.1

pub decided_once : OnePasses
unfolding OnePasses
decided_once m first second xs range room ok c =
    let q = (run (plain_step m) (restart m none) xs).1.queue in
    one_pass c q (of_sound q (in_area m first second xs range room ok).1.sound)

-- ---- the same for a node that always lends the image writer as much as any image takes

abbrev pub image_room : Limits → ℕ
image_room m = 2 * need m + (2 * m.P + m.T + 1)

abbrev pub RoomyOk : Limits → Step → Type 0
RoomyOk m (call c l fate) = CallOk c × ((image_room m ≤ length l.text) × (need m ≤ length l.other))
RoomyOk m (cut l) = need m ≤ length l.other

text_ok : (m : Limits) (near : Bool) (q : Queue) (a : Answer) (x : Queue) (text : Bytes) → q.limits ≡ m → image_room m ≤ length text → Good near q a x → TextOk a x text
text_ok m near q (Refused n) x text e r h z = false_true z
text_ok m near q (Done Nothing) x text e r h z = false_true z
text_ok m near q (Done Memory) x text e r h z = false_true z
text_ok m near q (Done Whole) x text e r h z = let z = image_room_law x h.0.fit in let k = ap image_room (h.0.limits ∙ e) in omega arith
text_ok m near q (Done Cursor) x text e r h z = let z = image_room_law x h.0.fit in let k = ap image_room (h.0.limits ∙ e) in omega arith

roomy_step : (m : Limits) (old : Bool) (p : Plain) (x : Step) → Inv m old p → RoomyOk m x → StepOk m p x
roomy_step m old p (call c l fate) i h =
    let k = work c p.queue (length l.next) (length l.out) in
    let g = work_good c p.queue (length l.next) (length l.out) old h.0 i.fit in
    (h.0, (text_ok m (mover c p.queue old) p.queue k.answer k.next l.text i.limits h.1.0 g, h.1.1))
roomy_step m old p (cut l) i h = h

roomy_steps : (m : Limits) → limits_right? m ≡ true → (xs : List Step) (old : Bool) (p : Plain) → Inv m old p → All (RoomyOk m) xs → StepsOk m p xs
roomy_steps m range [] old p i h = tt
roomy_steps m range (x ∷ xs) old p i h =
    let o = roomy_step m old p x i h.0 in
    let s = step_same m range old p (record { area = area_bytes p.queue ++ []; file = images p.stored; second = none }) x i (record { later = []; area = refl; file = refl }) o in
    (o, roomy_steps m range xs (moved_by p old x) (plain_step m p x).1 s.inv h.1)

pub roomy : (m : Limits) (xs : List Step) → limits_right? m ≡ true → All (RoomyOk m) xs → StepsOk m (restart m none) xs
roomy m xs range h = roomy_steps m range xs false (restart m none) (restart_inv m false none range tt) h
