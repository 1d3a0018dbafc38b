-- words, sizes and parts
pub mod Interval
pub mod Level
pub mod Part
pub mod Policy
pub mod Spaces
pub mod Growth
-- what has a name
pub mod Names
pub mod Hashed
-- chunks that are held, and what they leave
pub mod Front
pub mod Held
pub mod FreeParts
pub mod Committed
-- the machine's state, and when it is good
pub mod State
pub mod Live
pub mod Good
-- what the pool answers
pub mod PoolSteps
-- what only an arena cites, but for the level that the machine's request wants
pub mod Place
pub mod Asks
-- requests, steps and runs
pub mod Request
pub mod ReplyText
pub mod Transition
pub mod Run
-- what a report shows
pub mod Totals
-- laws about these, each the contract of a function of `laws`
pub mod Laws
