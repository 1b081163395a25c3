use Rattle.std.proofs.Common.{◌∙◌, sym, arith}
use Rattle.sql_text.specs.Symbols.{symbol_of}
use Rattle.sql_parser.proofs.Depths.{too_deep_here, depth_on, group_on, joins_rise}
use Rattle.sql_parser.proofs.nesting.group_unless_too_deep.Goals as goal

pub returns-then-look-gt-DEEPEST : goal.returns-then-look-gt-DEEPEST
returns-then-look-gt-DEEPEST c =
    sym c.loop-token.invariant.0
    ∙ too_deep_here c.args.tokens.now c.loop-token.token-index c.token-item.result c.loop-token.look.depth c.loop-token.look.joins
    c.look_at-look.result.depth c.token-item.is c.loop-token-test.true c.loop-token.invariant.1 c.look_at-look.ensures.depth
    c.if-look-gt-DEEPEST.true

pub loop-token-preserved : goal.loop-token-preserved
loop-token-preserved c = (
  depth_on c.args.tokens.now c.loop-token.token-index c.token-item.result c.loop-token.look.depth c.loop-token.look.joins
      c.look_at-look.result.depth c.look_at-look.result.joins c.token-item.is c.loop-token-test.true c.loop-token.invariant.1 c.look_at-look.ensures.depth
      c.look_at-look.ensures.joins ∙ c.loop-token.invariant.0,
  omega (arith, c.if-look-gt-DEEPEST.false),
  omega (arith, c.look_at-look.ensures.joins, joins_rise c.loop-token.look.joins (symbol_of c.token-item.result.kind c.token-item.result.text), c.loop-token.invariant.2),
  group_on c.args.tokens.now c.loop-token.token-index c.token-item.result c.loop-token.look.has_group c.look_at-look.result.has_group c.token-item.is
      c.loop-token-test.true c.look_at-look.ensures.group ∙ c.loop-token.invariant.3,
)
