-- `inner_split::consequences` meets its contract: the tables give the chains and the ground to judge every watched rule, and the verdicts are listed.
use mathlib.Core.Path.{refl}
use Rattle.meaning.proofs.Needs.{obeys_done}
use Rattle.lent.specs.Lent.{held_by}
use Rattle.chains.specs.Chains.{linked}
use Rattle.inner_split.proofs.Judging.{judged_held}
use Rattle.inner_split.proofs.Picking.{picked_front}
use Rattle.inner_split.proofs.Standing.{ground, near, chains_by, watching}
use native.Mathlib.Omega.{arith}
use Rattle.inner_split.proofs.consequences.Goals as goal

pub invariant_of-split : goal.invariant_of-split
invariant_of-split c = let a = c.args in
    let border = c.requires.border in
    let build = c.build in record {
      ground = ground a.counts a.xs.now a.ys.now a.cs.now a.days.now a.levels.now a.wxs.now a.wys.now a.wcs.now border a.heads.now a.nexts.now c.requires.lent_chains;
      near = near a.counts a.xs.now a.ys.now a.cs.now a.days.now a.levels.now a.wxs.now a.wys.now a.wcs.now border;
      watching = watching a.counts a.xs.now a.ys.now a.cs.now a.days.now a.levels.now a.wxs.now a.wys.now a.wcs.now border build.new.heads build.new.nexts c.build-2.new.heads c.build-2.new.nexts
          (chains_by a.counts a.xs.now a.ys.now a.cs.now a.days.now a.levels.now a.wxs.now a.wys.now a.wcs.now border a.wxs.now build.new.heads build.new.nexts build.ensures (omega (arith, build.auto.heads)) (omega (arith, build.auto.nexts)))
          (chains_by a.counts a.xs.now a.ys.now a.cs.now a.days.now a.levels.now a.wxs.now a.wys.now a.wcs.now border a.wys.now c.build-2.new.heads c.build-2.new.nexts c.build-2.ensures (omega (arith, c.build-2.auto.heads)) (omega (arith, c.build-2.auto.nexts)));
    }

pub returns : goal.returns
returns c = let a = c.args in
    let border = c.requires.border in
    let watched_in = border.sound.counts_in.watched_in in
    let judged =
    judged_held (held_by a.levels.now) (linked a.nexts.now) a.xs.now a.ys.now a.cs.now a.wxs.now a.wys.now a.wcs.now a.counts.watched _ _
    c.requires.lent_chains.on c.requires.lent_chains.only c.judge_all.ensures in
    obeys_done _ _ c.pick-in_all.result c.pick-in_none.result _
    ((border.room, c.requires.watched_in_bounds, c.requires.watched_in_bounds_2), (border.sound, tt))
    (record {
      tables_stay = refl;
      in_all = picked_front _ a.counts.watched c.judge_all.new.always a.one.now c.pick-in_all.new.list c.pick-in_all.result (omega (arith, watched_in, c.judge_all.auto.always)) judged.in_all c.pick-in_all.ensures;
      in_none = picked_front _ a.counts.watched c.judge_all.new.never a.two.now c.pick-in_none.new.list c.pick-in_none.result (omega (arith, watched_in, c.judge_all.auto.never)) judged.in_none c.pick-in_none.ensures;
    })
