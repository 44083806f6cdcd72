use Rattle.strip_reader.proofs.JudgedStrips.{bones-stop, morphs-stop, left-over, none-left}
use Rattle.strip_reader.proofs.judge.judge_kinds.Goals as goal

pub returns-in-Err : goal.returns-in-Err
returns-in-Err c = bones-stop _ _ _ _ c.requires c.args.space.now c.in-Err.why c.in-Err.ensures

pub returns-in-Err-judge_tracks : goal.returns-in-Err-judge_tracks
returns-in-Err-judge_tracks c = morphs-stop _ _ _ _ c.requires c.in-Ok.next c.in-Ok.ensures c.judge_tracks.new.space c.args.space.now c.judge_tracks.auto.space c.in-Err-judge_tracks.why c.in-Err-judge_tracks.ensures

pub returns-then-at-strip : goal.returns-then-at-strip
returns-then-at-strip c = left-over _ _ _ _ c.requires c.in-Ok.next c.in-Ok.ensures c.in-Ok-judge_tracks.next c.in-Ok-judge_tracks.ensures c.if-at-strip.true

pub returns : goal.returns
returns c = none-left _ _ _ _ c.requires c.in-Ok.next c.in-Ok.ensures c.in-Ok-judge_tracks.next c.in-Ok-judge_tracks.ensures c.if-at-strip.false
