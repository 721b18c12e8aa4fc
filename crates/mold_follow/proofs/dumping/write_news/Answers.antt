use Rattle.std.proofs.Common.{refl, None, Some}
use Rattle.mold_follow.proofs.DumpingLemmas.{fault_break, if_err, news_break, news_end, news_go_on, news_refused, not_read}
use Rattle.mold_follow.proofs.DumpingLemmas.{over_front, text_parts, until_counts, write_not_read}
use Rattle.mold_follow.proofs.dumping.write_news.Goals as goal

pub returns-in_err-send-in-Ok-false-clause-broken : goal.returns-in_err-send-in-Ok-false-clause-broken
returns-in_err-send-in-Ok-false-clause-broken g c = λ told start first counted going.
    let parts = text_parts c.args.options told c.args.news.now.messages start _ first _ going c.args.place.before c.args.place.total
    c.args.place.closed counted c.requires.counted
    c.push_news.new.text.items c.in-Ok-false.ensures.whole c.in-Ok-false.ensures.text in
    if_err c.from_residual-in_err-send-in-Ok-false.result c.in_err-send-in-Ok-false.field-0.0 _
    c.from_residual-in_err-send-in-Ok-false.ensures.1
    (news_break c.args.options told c.args.news.now.messages start _ first _ going c.args.place.before c.args.place.total
    c.args.place.closed counted c.requires.counted
    c.in_err-send-in-Ok-false.field-0.0 c.push_news.new.text.items parts.more _ parts.parts
    c.in_err-send-in-Ok-false.ensures.front
    (write_not_read c.in_err-send-in-Ok-false.field-0.0 c.in_err-send-in-Ok-false.ensures.fault))

pub returns-in_ok-send-in-Ok-false-clause-left : goal.returns-in_ok-send-in-Ok-false-clause-left
returns-in_ok-send-in-Ok-false-clause-left g c = λ told start first counted going.
    news_go_on c.args.options told c.args.news.now.messages start _ first _ going c.args.place.before c.args.place.total
    c.args.place.closed counted c.requires.counted
    _ c.push_news.new.text.items _ _ c.in-Ok-false.ensures.over c.in-Ok-false.field-0-test c.in-Ok-false.ensures.whole
    c.in-Ok-false.ensures.text c.in_ok-send-in-Ok-false.ensures.whole refl

pub returns-in_err-end_dump-in-Ok-true-clause-broken : goal.returns-in_err-end_dump-in-Ok-true-clause-broken
returns-in_err-end_dump-in-Ok-true-clause-broken g c = λ told start first counted going.
    let parts = text_parts c.args.options told c.args.news.now.messages start _ first _ going c.args.place.before c.args.place.total
    c.args.place.closed counted c.requires.counted
    c.push_news.new.text.items c.in-Ok-true.ensures.whole c.in-Ok-true.ensures.text in
    if_err c.from_residual.result c.in_err-end_dump-in-Ok-true.field-0.0 _ c.from_residual.ensures.1
    (news_break c.args.options told c.args.news.now.messages start _ first _ going c.args.place.before c.args.place.total
    c.args.place.closed counted c.requires.counted
    c.in_err-end_dump-in-Ok-true.field-0.0 c.push_news.new.text.items parts.more _ parts.parts
    (over_front c.args.options told c.args.news.now.messages start _ first _ going c.args.place.before c.args.place.total
    c.args.place.closed counted c.requires.counted
    c.push_news.new.text.items _ c.in_err-end_dump-in-Ok-true.ensures.front)
    (not_read c.args.options.format None _ _ c.in_err-end_dump-in-Ok-true.field-0.0 refl
    c.in_err-end_dump-in-Ok-true.ensures.failures))

pub returns-in_ok-end_dump-in-Ok-true-clause-left : goal.returns-in_ok-end_dump-in-Ok-true-clause-left
returns-in_ok-end_dump-in-Ok-true-clause-left g c = λ told start first counted going.
    news_end c.args.options told c.args.news.now.messages start _ first _ going c.args.place.before c.args.place.total
    c.args.place.closed counted c.requires.counted
    _ c.push_news.new.text.items _ _ _ c.in-Ok-true.ensures.over c.in-Ok-true.field-0-test c.in-Ok-true.ensures.whole
    c.in-Ok-true.ensures.text c.in_ok-end_dump-in-Ok-true.ensures.whole c.in_ok-end_dump-in-Ok-true.ensures.report

pub returns-in_err-end_dump-in-Err-clause-broken : goal.returns-in_err-end_dump-in-Err-clause-broken
returns-in_err-end_dump-in-Err-clause-broken g c = λ told start first counted going.
    if_err c.from_residual-in_err-end_dump-in-Err.result c.in_err-end_dump-in-Err.field-0.0 _
    c.from_residual-in_err-end_dump-in-Err.ensures.1
    (fault_break c.args.options told c.args.news.now.messages start _ first _ going c.args.place.before c.args.place.total
    c.args.place.closed counted c.requires.counted
    c.in-Err.fault c.in_err-end_dump-in-Err.field-0.0 c.push_news.new.text.items _ c.in-Err.ensures.until
    c.in_err-end_dump-in-Err.ensures.front
    (not_read c.args.options.format (Some c.in-Err.fault) _ _ c.in_err-end_dump-in-Err.field-0.0
    (until_counts c.args.options c.args.place.before c.args.news.now.messages c.push_news.new.text.items c.in-Err.fault
    c.in-Err.ensures.until)
    c.in_err-end_dump-in-Err.ensures.failures))

pub returns-in_ok-end_dump-in-Err-clause-left : goal.returns-in_ok-end_dump-in-Err-clause-left
returns-in_ok-end_dump-in-Err-clause-left g c = λ told start first counted going.
    news_refused c.args.options told c.args.news.now.messages start _ first _ going c.args.place.before c.args.place.total
    c.args.place.closed counted c.requires.counted
    c.in-Err.fault c.push_news.new.text.items _ _ _ c.in-Err.ensures.until c.in_ok-end_dump-in-Err.ensures.told
    c.in_ok-end_dump-in-Err.ensures.whole c.in_ok-end_dump-in-Err.ensures.report
