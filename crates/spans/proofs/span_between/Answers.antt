-- `spans::span_between` meets its contract.
-- Assumes nothing.
use Rattle.spans.proofs.Spanning.{last-counted, start_small, start-end, span-is}
use Rattle.spans.proofs.span_between.Goals as goal

pub start_behind-start-requires : goal.start_behind-start-requires
start_behind-start-requires c =
    start_small c.args.code.now c.args.tokens.now c.args.last c.args.n c.requires.buffered c.requires.last_value.0 c.requires.last_value.1

pub end_before-end-requires : goal.end_before-end-requires
end_before-end-requires c =
    last-counted c.args.code.now c.args.tokens.now c.args.last c.args.n c.requires.buffered c.requires.last_value.0 c.requires.last_value.1

pub overflow_sub-result : goal.overflow_sub-result
overflow_sub-result c =
    start-end c.args.code.now c.args.tokens.now c.args.last c.args.n c.requires.buffered c.requires.last_value.0 c.requires.last_value.1 _ _ c.start_behind-start.ensures c.end_before-end.ensures

pub returns : goal.returns
returns c =
    span-is c.args.code.now c.args.tokens.now c.args.last c.args.n c.requires.buffered c.requires.last_value.0 c.requires.last_value.1 _ _ c.start_behind-start.ensures c.end_before-end.ensures
