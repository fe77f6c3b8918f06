-- The laws of a floor in an area that was checked. Assumes nothing.
use Rattle.std.specs.Prelude.{◌≡◌, false, ◌-◌, ◌≤◌}
use Rattle.queue.specs.layout.FrameCodec.{rec_c}
use Rattle.queue.specs.layout.FormsCodec.{form_c}
use Rattle.queue.specs.bytes.ReaderAs.{list_at}
use Rattle.queue.specs.layout.FrameAs.{facts_of, limits_in}
use Rattle.queue.specs.check.RulesAs.{weight, sum}
use Rattle.queue.specs.check.AreaAs.{AreaAs}
use Rattle.queue.specs.paper.Records.{Bytes, Queue}
use Rattle.queue.specs.declared.check.area.Area.{Area}
use Rattle.queue.specs.declared.check.rules.Query.TheVariants.{Tombstones}
use Rattle.queue.proofs.check.AreaLaws.{list_length, held_few, tombs_are}

-- how many tombstones there are
module _ {s : Bytes} {a : Area} {q : Queue} (w : AreaAs s a q) where
  pub held_here : a.open.sums.holders ≤ a.open.head.count
  held_here =
      let st = w.store in
      held_few (limits_in a.open.head.limits) a.open.head.count a.open.head.counter a.open.sums (list_at (form_c false rec_c) a.open.head.count s a.open.start) st.sums
      (list_length (form_c false rec_c) a.open.head.count s a.open.start st.all)

  pub tombs_here : sum Tombstones (list_at (form_c false rec_c) a.open.head.count s a.open.start) ≡ a.open.head.count - a.open.sums.holders
  unfolding sum weight facts_of
  tombs_here =
      let st = w.store in
      tombs_are (limits_in a.open.head.limits) a.open.head.count a.open.head.counter a.open.sums (list_at (form_c false rec_c) a.open.head.count s a.open.start) st.sums
      (list_length (form_c false rec_c) a.open.head.count s a.open.start st.all)
