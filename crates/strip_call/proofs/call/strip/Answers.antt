-- The definition goes on with the model that was read, as the call does. Assumes nothing.
use Rattle.strip_call.proofs.Called.{read-says}
use Rattle.strip_call.proofs.call.strip.Goals as goal

pub returns : goal.returns
returns c = read-says c.args.section.now c.args.start c.args.first.now c.args.second.now c.args.output.now c.in_ok-m.m c.in_ok-m.field-0-1 c.in_ok-m.ensures c.strip_model.result c.strip_model.new.first c.strip_model.new.second c.strip_model.new.output c.strip_model.ensures
