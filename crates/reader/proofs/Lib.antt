-- What the proof of `read` uses.
mod Records
mod Outcomes
